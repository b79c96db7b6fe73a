-- How a program that plays a script ends. Assumes nothing.
use Rattle.std.specs.Prelude.{ℕ}
use Rattle.inputs.specs.declared.Ended.{Ended}
use Rattle.inputs.specs.declared.Ended.TheVariants.{Done, Failed, Unread}

-- The exit status. 141 is what a shell tells of a program that SIGPIPE ended.
abbrev pub status_of : Ended → ℕ
status_of Done = 0
status_of Failed = 0
status_of Unread = 141
