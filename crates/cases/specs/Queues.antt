-- M-100, message queues: cases by step, with the messages lent and those shown, which no listing tells. A row is the first task's
-- priority, the records, the lines of their answers as a listing has them (in parts), and the messages shown, none past those named. To
-- add a case, add a row.
-- Assumes nothing.
use Rattle.std.specs.Prelude.{ℕ, suc, ◌+◌, ◌-◌, Bool, true, ◌&&◌, List, [], ◌∷◌, ◌++◌, length, get_or, replicate}
use Prim.Native.String.{String, len}
use Rattle.scope.specs.declared.State.{State}
use Rattle.scope.specs.declared.Answer.{Answer}
use Rattle.scope.specs.Replies.{reply_of}
use Rattle.scope.specs.Fresh.{fresh_state}
use Rattle.scope.specs.Script.{message_at}
use Rattle.scope.specs.Step.{answered}
use Rattle.scope.specs.Listing.{line_of}
use Rattle.cases.specs.Cases.{call, interrupt, FOREVER, record_bytes, text_bytes, same}

-- a record, and the message that it lends
pub record Lent : Type 0 where
  pub asks : List ℕ
  pub message : List ℕ

pub record QueueCase : Type 0 where
  pub priority : ℕ
  pub records : List Lent
  pub lines : List String
  pub shown : List (List ℕ)

abbrev case : ℕ → List Lent → List String → List (List ℕ) → QueueCase
case p rs ls ms = record { priority = p; records = rs; lines = ls; shown = ms }

-- with a message, and without
abbrev lends : List ℕ → List ℕ → Lent
lends r m = record { asks = r; message = m }

abbrev lone : List ℕ → Lent
lone r = lends r []

-- the message that a script's record lends: "the three arguments left are the first 12 bytes, the rest zeros"
abbrev scripted : List ℕ → Lent
scripted r = lends r (message_at (record_bytes r) 0)

-- the calls, by the running task
abbrev create : List ℕ → Lent
create arguments = lone (call 20 arguments)

abbrev delete : ℕ → Lent
delete id = lone (call 21 (id ∷ []))

abbrev ident : ℕ → Lent
ident name = lone (call 22 (name ∷ []))

abbrev send : ℕ → ℕ → List ℕ → Lent
send id n m = lends (call 23 (id ∷ n ∷ [])) m

abbrev jump : ℕ → ℕ → List ℕ → Lent
jump id n m = lends (call 24 (id ∷ n ∷ [])) m

abbrev receive : ℕ → ℕ → ℕ → Lent
receive id options ticks = lone (call 25 (id ∷ options ∷ ticks ∷ []))

abbrev info : ℕ → Lent
info id = lone (call 26 (id ∷ []))

abbrev tick : Lent
tick = lone (interrupt 0 [])

-- a task of this priority is made, task 65, 66, .. in turn, and started
abbrev task : ℕ → Lent
task priority = lone (call 1 (9 ∷ priority ∷ []))

abbrev start : ℕ → Lent
start id = lone (call 4 (id ∷ []))

abbrev pub queue_cases : List QueueCase
queue_cases =
    -- "create 3, 6, 7", in that order: most 0 and 17, longest 0 and 65, whatever the options; options 2; 16 and 64, 1 and 1; the ninth
    case 5
    (create (7 ∷ 0 ∷ 64 ∷ 2 ∷ []) ∷ create (7 ∷ 17 ∷ 64 ∷ 2 ∷ []) ∷ create (7 ∷ 16 ∷ 0 ∷ 2 ∷ []) ∷ create (7 ∷ 16 ∷ 65 ∷ 2 ∷ [])
    ∷ create (7 ∷ 16 ∷ 64 ∷ 2 ∷ []) ∷ create (7 ∷ 16 ∷ 64 ∷ 1 ∷ []) ∷ create (7 ∷ 1 ∷ 1 ∷ 0 ∷ []) ∷ create (7 ∷ 1 ∷ 1 ∷ 0 ∷ [])
    ∷ create (7 ∷ 1 ∷ 1 ∷ 0 ∷ []) ∷ create (7 ∷ 1 ∷ 1 ∷ 0 ∷ []) ∷ create (7 ∷ 1 ∷ 1 ∷ 0 ∷ []) ∷ create (7 ∷ 1 ∷ 1 ∷ 0 ∷ [])
    ∷ create (7 ∷ 1 ∷ 1 ∷ 0 ∷ []) ∷ create (7 ∷ 0 ∷ 1 ∷ 2 ∷ []) ∷ create (7 ∷ 1 ∷ 1 ∷ 2 ∷ []) ∷ create (7 ∷ 1 ∷ 1 ∷ 0 ∷ []) ∷ [])
    ("1 3 0 0 0 0 64\n2 3 0 0 0 0 64\n3 3 0 0 0 0 64\n4 3 0 0 0 0 64\n5 6 0 0 0 0 64\n6 0 64 0 0 0 64\n"
    ∷ "7 0 65 0 0 0 64\n8 0 66 0 0 0 64\n9 0 67 0 0 0 64\n10 0 68 0 0 0 64\n11 0 69 0 0 0 64\n12 0 70 0 0 0 64\n"
    ∷ "13 0 71 0 0 0 64\n14 3 0 0 0 0 64\n15 6 0 0 0 0 64\n16 7 0 0 0 0 64\n" ∷ [])
    []
    -- "send and jump id, length (0 too)": 27 "too long for the queue, or the lent bytes are fewer", 28; "27 before 28"; then "whose first
    -- figure is its length; bytes past it are 0", whatever more is lent; 29
    ∷ case 5
    (create (7 ∷ 1 ∷ 4 ∷ 1 ∷ []) ∷ send 64 5 (1 ∷ 2 ∷ 3 ∷ 4 ∷ 5 ∷ []) ∷ send 64 2 (1 ∷ []) ∷ jump 64 1 [] ∷ send 64 0 (1 ∷ []) ∷ info 64
    ∷ send 64 5 (1 ∷ 2 ∷ 3 ∷ 4 ∷ 5 ∷ []) ∷ jump 64 2 (1 ∷ []) ∷ send 64 4 (1 ∷ 2 ∷ 3 ∷ 4 ∷ []) ∷ jump 64 0 []
    ∷ receive 64 1 0 ∷ receive 64 1 0 ∷ send 64 3 (11 ∷ 12 ∷ 13 ∷ 14 ∷ []) ∷ receive 64 1 0 ∷ [])
    ("1 0 64 0 0 0 64\n2 27 0 0 0 0 64\n3 27 0 0 0 0 64\n4 27 0 0 0 0 64\n5 0 0 0 0 0 64\n6 0 1 1 0 0 64\n"
    ∷ "7 27 0 0 0 0 64\n8 27 0 0 0 0 64\n9 28 0 0 0 0 64\n10 28 0 0 0 0 64\n11 0 0 0 0 0 64\n12 29 0 0 0 0 64\n"
    ∷ "13 0 0 0 0 0 64\n14 0 3 0 0 0 64\n" ∷ [])
    ([] ∷ [] ∷ [] ∷ [] ∷ [] ∷ [] ∷ [] ∷ [] ∷ [] ∷ [] ∷ [] ∷ [] ∷ [] ∷ (11 ∷ 12 ∷ 13 ∷ []) ∷ [])
    -- "A message goes .. to the end; jump puts it in front."
    ∷ case 5
    (create (7 ∷ 16 ∷ 64 ∷ 0 ∷ []) ∷ send 64 1 (11 ∷ []) ∷ send 64 2 (21 ∷ 22 ∷ []) ∷ jump 64 3 (31 ∷ 32 ∷ 33 ∷ []) ∷ jump 64 1 (41 ∷ [])
    ∷ send 64 64 (replicate 64 51) ∷ info 64 ∷ receive 64 1 0 ∷ receive 64 1 0 ∷ receive 64 1 0 ∷ receive 64 1 0 ∷ receive 64 1 0
    ∷ receive 64 1 0 ∷ [])
    ("1 0 64 0 0 0 64\n2 0 0 0 0 0 64\n3 0 0 0 0 0 64\n4 0 0 0 0 0 64\n5 0 0 0 0 0 64\n6 0 0 0 0 0 64\n"
    ∷ "7 0 0 5 0 0 64\n8 0 1 0 0 0 64\n9 0 3 0 0 0 64\n10 0 1 0 0 0 64\n11 0 2 0 0 0 64\n12 0 64 0 0 0 64\n"
    ∷ "13 29 0 0 0 0 64\n" ∷ [])
    ([] ∷ [] ∷ [] ∷ [] ∷ [] ∷ [] ∷ [] ∷ (41 ∷ []) ∷ (31 ∷ 32 ∷ 33 ∷ []) ∷ (11 ∷ []) ∷ (21 ∷ 22 ∷ []) ∷ replicate 64 51 ∷ [])
    -- "receive 6, 3, 29": options 2 before time_out 0, which is 3 though a message is held, and 65,536; with NOWAIT it is not looked at;
    -- 29, and without NOWAIT the caller waits (1), by an interrupt's tick for one: 13
    ∷ case 5
    (create (7 ∷ 1 ∷ 4 ∷ 0 ∷ []) ∷ send 64 1 (11 ∷ []) ∷ receive 64 2 0 ∷ receive 64 0 0 ∷ receive 64 0 65536 ∷ receive 64 1 0
    ∷ receive 64 0 0 ∷ receive 64 1 65536 ∷ send 64 1 (12 ∷ []) ∷ receive 64 0 65535 ∷ receive 64 0 1 ∷ info 64 ∷ tick ∷ info 64 ∷ [])
    ("1 0 64 0 0 0 64\n2 0 0 0 0 0 64\n3 6 0 0 0 0 64\n4 3 0 0 0 0 64\n5 3 0 0 0 0 64\n6 0 1 0 0 0 64\n"
    ∷ "7 3 0 0 0 0 64\n8 29 0 0 0 0 64\n9 0 0 0 0 0 64\n10 0 1 0 0 0 64\n11 1 0 0 0 0 0\n12 24 0 0 0 0 0\n"
    ∷ "13 0 0 0 0 0 64 64:13\n14 0 0 0 0 0 64\n" ∷ [])
    ([] ∷ [] ∷ [] ∷ [] ∷ [] ∷ (11 ∷ []) ∷ [] ∷ [] ∷ [] ∷ (12 ∷ []) ∷ [])
    -- "A message goes to the first waiter", a jump's too: the first is 66, which joined later with a higher priority; 27 though somebody
    -- waits; "a delivery reads `task:0:length`", and its bytes past the length are 0; where nobody waits it is held
    ∷ case 5
    (create (7 ∷ 1 ∷ 4 ∷ 0 ∷ []) ∷ task 6 ∷ task 8 ∷ start 65 ∷ receive 64 0 FOREVER ∷ start 66 ∷ receive 64 0 9 ∷ info 64
    ∷ lends (interrupt 23 (64 ∷ 5 ∷ [])) (1 ∷ 2 ∷ 3 ∷ 4 ∷ 5 ∷ []) ∷ send 64 2 (1 ∷ [])
    ∷ lends (interrupt 23 (64 ∷ 2 ∷ [])) (11 ∷ 12 ∷ 13 ∷ []) ∷ info 64 ∷ jump 64 0 (21 ∷ []) ∷ jump 64 1 (31 ∷ []) ∷ info 64 ∷ [])
    ("1 0 64 0 0 0 64\n2 0 65 0 0 0 64\n3 0 66 0 0 0 64\n4 0 0 0 0 0 65\n5 1 0 0 0 0 64\n6 0 0 0 0 0 66\n"
    ∷ "7 1 0 0 0 0 64\n8 0 0 0 2 0 64\n9 27 0 0 0 0 64\n10 27 0 0 0 0 64\n11 0 0 0 0 0 66 66:0:2\n12 0 0 0 1 0 66\n"
    ∷ "13 0 0 0 0 0 66 65:0:0\n14 0 0 0 0 0 66\n15 0 0 1 0 0 66\n" ∷ [])
    ([] ∷ [] ∷ [] ∷ [] ∷ [] ∷ [] ∷ [] ∷ [] ∷ [] ∷ [] ∷ (11 ∷ 12 ∷ []) ∷ [])
    -- "Delete drops what is held and wakes waiters in order", with 30: 66 stands before 65; then the name is not found, and
    -- the slot's next queue holds nothing
    ∷ case 5
    (create (7 ∷ 1 ∷ 4 ∷ 0 ∷ []) ∷ task 6 ∷ task 8 ∷ start 65 ∷ receive 64 0 FOREVER ∷ start 66 ∷ receive 64 0 FOREVER ∷ ident 7
    ∷ delete 64 ∷ ident 7 ∷ create (7 ∷ 1 ∷ 4 ∷ 0 ∷ []) ∷ send 128 4 (1 ∷ 2 ∷ 3 ∷ 4 ∷ []) ∷ delete 128
    ∷ create (7 ∷ 1 ∷ 4 ∷ 0 ∷ []) ∷ info 192 ∷ receive 192 1 0 ∷ [])
    ("1 0 64 0 0 0 64\n2 0 65 0 0 0 64\n3 0 66 0 0 0 64\n4 0 0 0 0 0 65\n5 1 0 0 0 0 64\n6 0 0 0 0 0 66\n"
    ∷ "7 1 0 0 0 0 64\n8 0 64 0 0 0 64\n9 0 0 0 0 0 66 66:30 65:30\n10 8 0 0 0 0 66\n11 0 128 0 0 0 66\n"
    ∷ "12 0 0 0 0 0 66\n13 0 0 0 0 0 66\n14 0 192 0 0 0 66\n15 0 0 0 0 0 66\n16 29 0 0 0 0 66\n" ∷ [])
    []
    -- 64 is a semaphore and a queue: a release wakes no receiver; one that times out and one that is deleted give the semaphore
    -- nothing; a send wakes nobody who claims, and a grant reads `task:0`
    ∷ case 5
    (lone (call 8 (7 ∷ 0 ∷ 0 ∷ [])) ∷ create (7 ∷ 1 ∷ 4 ∷ 0 ∷ []) ∷ task 8 ∷ start 65 ∷ receive 64 0 1 ∷ lone (call 12 (64 ∷ [])) ∷ tick
    ∷ lone (call 13 (64 ∷ [])) ∷ receive 64 0 FOREVER ∷ lone (call 2 (65 ∷ [])) ∷ lone (call 13 (64 ∷ [])) ∷ info 64
    ∷ lone (call 11 (64 ∷ 1 ∷ 0 ∷ [])) ∷ lone (call 11 (64 ∷ 0 ∷ FOREVER ∷ [])) ∷ lends (interrupt 24 (64 ∷ 1 ∷ [])) (11 ∷ [])
    ∷ lone (interrupt 12 (64 ∷ [])) ∷ info 64 ∷ [])
    ("1 0 64 0 0 0 64\n2 0 64 0 0 0 64\n3 0 65 0 0 0 64\n4 0 0 0 0 0 65\n5 1 0 0 0 0 64\n6 0 0 0 0 0 64\n"
    ∷ "7 0 0 0 0 0 65 65:13\n8 0 0 1 0 0 65\n9 1 0 0 0 0 64\n10 0 0 0 0 0 64\n11 0 0 1 0 0 64\n12 0 0 0 0 0 64\n"
    ∷ "13 0 0 0 0 0 64\n14 1 0 0 0 0 0\n15 0 0 0 0 0 0\n16 0 0 0 0 0 64 64:0\n17 0 0 1 0 0 64\n" ∷ [])
    []
    -- "Interrupts may send and jump", 2 for the other five; a caller mark 2, and the first call of no row, are 25; 24 where nothing runs
    ∷ case 5
    (create (7 ∷ 2 ∷ 4 ∷ 0 ∷ []) ∷ lone (interrupt 20 (7 ∷ 0 ∷ 0 ∷ 2 ∷ [])) ∷ lone (interrupt 21 (64 ∷ [])) ∷ lone (interrupt 22 (8 ∷ []))
    ∷ lone (interrupt 25 (64 ∷ 1 ∷ 0 ∷ [])) ∷ lone (interrupt 26 (64 ∷ [])) ∷ lone (interrupt 23 (64 ∷ 0 ∷ []))
    ∷ lone (interrupt 24 (64 ∷ 0 ∷ [])) ∷ lone (20 ∷ 2 ∷ []) ∷ lone (21 ∷ 2 ∷ []) ∷ lone (22 ∷ 2 ∷ []) ∷ lone (23 ∷ 2 ∷ [])
    ∷ lone (24 ∷ 2 ∷ []) ∷ lone (25 ∷ 2 ∷ []) ∷ lone (26 ∷ 2 ∷ []) ∷ lone (call 27 []) ∷ create (7 ∷ 2 ∷ 4 ∷ 0 ∷ []) ∷ receive 65 0 9
    ∷ create [] ∷ delete 0 ∷ ident 0 ∷ send 0 0 [] ∷ jump 0 0 [] ∷ receive 0 0 0 ∷ info 0 ∷ [])
    ("1 0 64 0 0 0 64\n2 2 0 0 0 0 64\n3 2 0 0 0 0 64\n4 2 0 0 0 0 64\n5 2 0 0 0 0 64\n6 2 0 0 0 0 64\n"
    ∷ "7 0 0 0 0 0 64\n8 0 0 0 0 0 64\n9 25 0 0 0 0 64\n10 25 0 0 0 0 64\n11 25 0 0 0 0 64\n12 25 0 0 0 0 64\n"
    ∷ "13 25 0 0 0 0 64\n14 25 0 0 0 0 64\n15 25 0 0 0 0 64\n16 25 0 0 0 0 64\n17 0 65 0 0 0 64\n18 1 0 0 0 0 0\n"
    ∷ "19 24 0 0 0 0 0\n20 24 0 0 0 0 0\n21 24 0 0 0 0 0\n22 24 0 0 0 0 0\n23 24 0 0 0 0 0\n24 24 0 0 0 0 0\n"
    ∷ "25 24 0 0 0 0 0\n" ∷ [])
    []
    -- an identifier never issued is 4, a deleted one 5, before each call's own tests
    ∷ case 5
    (delete 64 ∷ send 64 5 [] ∷ jump 64 5 [] ∷ receive 64 2 0 ∷ info 64 ∷ create (7 ∷ 1 ∷ 4 ∷ 0 ∷ []) ∷ delete 64
    ∷ delete 64 ∷ send 64 5 [] ∷ jump 64 5 [] ∷ receive 64 2 0 ∷ info 64 ∷ [])
    ("1 4 0 0 0 0 64\n2 4 0 0 0 0 64\n3 4 0 0 0 0 64\n4 4 0 0 0 0 64\n5 4 0 0 0 0 64\n6 0 64 0 0 0 64\n"
    ∷ "7 0 0 0 0 0 64\n8 5 0 0 0 0 64\n9 5 0 0 0 0 64\n10 5 0 0 0 0 64\n11 5 0 0 0 0 64\n12 5 0 0 0 0 64\n" ∷ [])
    []
    -- "In a script the three arguments left are the first 12 bytes, the rest zeros": a message of 14 bytes
    ∷ case 5
    (create (7 ∷ 1 ∷ 64 ∷ 0 ∷ []) ∷ scripted (call 23 (64 ∷ 14 ∷ 67305985 ∷ 134678021 ∷ 202050057 ∷ [])) ∷ receive 64 1 0 ∷ [])
    ("1 0 64 0 0 0 64\n2 0 0 0 0 0 64\n3 0 14 0 0 0 64\n" ∷ [])
    ([] ∷ [] ∷ (1 ∷ 2 ∷ 3 ∷ 4 ∷ 5 ∷ 6 ∷ 7 ∷ 8 ∷ 9 ∷ 10 ∷ 11 ∷ 12 ∷ []) ∷ [])
    ∷ []

-- the answers to the records in turn, and the state goes on
abbrev pub answers : List Lent → State → List Answer
answers [] s = []
answers (r ∷ rs) s =
    let a : Answer =
    answered s (get_or r.asks 0 0) (get_or r.asks 1 0) (get_or r.asks 2 0) (get_or r.asks 3 0) (get_or r.asks 4 0)
    (get_or r.asks 5 0) (get_or r.asks 6 0) r.message
    in
    a ∷ answers rs a.state

-- their lines, record k first
abbrev pub lines_of : ℕ → List Answer → List ℕ
lines_of k [] = []
lines_of k (a ∷ xs) = line_of k (reply_of a) ++ lines_of (suc k) xs

-- the bytes of a text in parts
abbrev pub parts_bytes : List String → List ℕ
parts_bytes [] = []
parts_bytes (t ∷ ts) = text_bytes t (len t) 0 ++ parts_bytes ts

-- 64 bytes, zeros past the message named
abbrev pub filled : List ℕ → List ℕ
filled m = m ++ replicate (64 - length m) 0

-- the messages shown, none where the row names none
abbrev pub all_shown : List Answer → List (List ℕ) → Bool
all_shown [] ms = true
all_shown (a ∷ xs) [] = same a.shown (filled []) && all_shown xs []
all_shown (a ∷ xs) (m ∷ ms) = same a.shown (filled m) && all_shown xs ms

abbrev pub answers_pass : List Answer → QueueCase → Bool
answers_pass xs c = same (lines_of 1 xs) (parts_bytes c.lines) && all_shown xs c.shown

abbrev pub queues_pass : List QueueCase → Bool
queues_pass [] = true
queues_pass (c ∷ cs) = answers_pass (answers c.records (fresh_state c.priority)) c && queues_pass cs
