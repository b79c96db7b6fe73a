-- Histories that show what M-111 claims: that it cannot be made sharper, and where it does not hold.
pub mod Shown
