-- M-100 over histories: the messages that a queue holds, and those accepted and delivered, as the answers tell.
pub mod Messages
pub mod Told
