-- What the functions return (own).
use Rattle.std.specs.Prelude.{ℤ, pos}

-- done
abbrev pub status_done : ℤ
status_done = pos 0

-- out of memory
abbrev pub status_no_memory : ℤ
status_no_memory = pos 1

-- there is no engine; of `yektrod_open`, there is one already
abbrev pub status_shut : ℤ
status_shut = pos 2

-- no such answer, line or text
abbrev pub status_missing : ℤ
status_missing = pos 3

-- a text is no UTF-8, or a number is out of range
abbrev pub status_unreadable : ℤ
status_unreadable = pos 4

-- there is no list to remove
abbrev pub status_no_list : ℤ
status_no_list = pos 5

-- the room is too little
abbrev pub status_no_room : ℤ
status_no_room = pos 6

-- a record of a script is malformed
abbrev pub status_malformed : ℤ
status_malformed = pos 7
