-- The cases that document 01 marks P, and one each of M-100 (more of it in Queues.antt), M-101 and M-103: a script's first priority and its records, and the whole listing. To add a case, add a row.
-- Assumes nothing.
use Rattle.std.specs.Prelude.{ℕ, zero, suc, ◌+◌, ◌*◌, ◌/◌, ◌%◌, Bool, true, false, ◌&&◌, List, [], ◌∷◌, ◌++◌, length, get_or, eqb}
use Prim.Native.Char.{code}
use Prim.Native.String.{String, char_at, len}
use Rattle.scope.specs.Listing.{listing}

pub record Case : Type 0 where
  pub priority : ℕ
  pub records : List (List ℕ)
  pub lines : String

abbrev case : ℕ → List (List ℕ) → String → Case
case p rs ls = record { priority = p; records = rs; lines = ls }

-- a record: call, caller mark, arguments
abbrev pub call : ℕ → List ℕ → List ℕ
call n arguments = n ∷ 0 ∷ arguments

abbrev pub interrupt : ℕ → List ℕ → List ℕ
interrupt n arguments = n ∷ 1 ∷ arguments

abbrev pub FOREVER : ℕ
FOREVER = 4294967295

abbrev pub cases : List Case
cases =
    -- "Nine records, first priority 5", and the whole listing
    case 5
    (call 8 (7 ∷ 1 ∷ 1 ∷ []) ∷ call 11 (64 ∷ 0 ∷ FOREVER ∷ []) ∷ call 1 (9 ∷ 8 ∷ []) ∷ call 4 (65 ∷ [])
    ∷ call 11 (64 ∷ 0 ∷ 2 ∷ []) ∷ interrupt 0 [] ∷ interrupt 0 [] ∷ call 13 (64 ∷ []) ∷ call 11 (64 ∷ 1 ∷ 0 ∷ []) ∷ [])
    "1 0 64 0 0 0 64\n2 0 0 0 0 0 64\n3 0 65 0 0 0 64\n4 0 0 0 0 0 65\n5 1 0 0 0 0 64\n6 0 0 0 0 0 64\n7 0 0 0 0 0 65 65:13\n8 0 1 0 0 0 65\n9 10 0 0 0 0 65\n"
    -- "initial count 32,767 accepted, 32,768 status 9"
    ∷ case 5
    (call 8 (1 ∷ 32767 ∷ 0 ∷ []) ∷ call 8 (1 ∷ 32768 ∷ 0 ∷ []) ∷ [])
    "1 0 64 0 0 0 64\n2 9 0 0 0 0 64\n"
    -- "release at 32,767 status 12", and at 32,766 accepted
    ∷ case 5
    (call 8 (1 ∷ 32766 ∷ 0 ∷ []) ∷ call 12 (64 ∷ []) ∷ call 13 (64 ∷ []) ∷ call 12 (64 ∷ []) ∷ call 13 (64 ∷ []) ∷ [])
    "1 0 64 0 0 0 64\n2 0 0 0 0 0 64\n3 0 0 32767 0 0 64\n4 12 0 0 0 0 64\n5 0 0 32767 0 0 64\n"
    -- "pool at 4,096, length 100, size 32 has 3 buffers, at 4,096, 4,128, 4,160; returning 4,097 is status 18; a pool at 4,195
    -- overlaps it, at 4,196 not"
    ∷ case 5
    (call 14 (1 ∷ 4096 ∷ 100 ∷ 32 ∷ 0 ∷ []) ∷ call 19 (64 ∷ []) ∷ call 17 (64 ∷ []) ∷ call 17 (64 ∷ [])
    ∷ call 17 (64 ∷ []) ∷ call 17 (64 ∷ []) ∷ call 18 (64 ∷ 4097 ∷ []) ∷ call 18 (64 ∷ 4096 ∷ [])
    ∷ call 14 (2 ∷ 4195 ∷ 1 ∷ 1 ∷ 0 ∷ []) ∷ call 14 (2 ∷ 4196 ∷ 1 ∷ 1 ∷ 0 ∷ []) ∷ [])
    "1 0 64 0 0 0 64\n2 0 3 3 32 0 64\n3 0 4096 0 0 0 64\n4 0 4128 0 0 0 64\n5 0 4160 0 0 0 64\n6 17 0 0 0 0 64\n7 18 0 0 0 0 64\n8 0 0 0 0 0 64\n9 15 0 0 0 0 64\n10 0 65 0 0 0 64\n"
    -- "address 4,294,967,295 with length 1 accepted, length 2 status 3"
    ∷ case 5
    (call 14 (1 ∷ 4294967295 ∷ 2 ∷ 1 ∷ 0 ∷ []) ∷ call 14 (1 ∷ 4294967295 ∷ 1 ∷ 1 ∷ 0 ∷ []) ∷ call 17 (64 ∷ []) ∷ [])
    "1 3 0 0 0 0 64\n2 0 64 0 0 0 64\n3 0 4294967295 0 0 0 64\n"
    -- "64 buffers accepted, 65 status 14"
    ∷ case 5
    (call 14 (1 ∷ 0 ∷ 65 ∷ 1 ∷ 0 ∷ []) ∷ call 14 (1 ∷ 0 ∷ 64 ∷ 1 ∷ 0 ∷ []) ∷ call 19 (64 ∷ []) ∷ [])
    "1 14 0 0 0 0 64\n2 0 64 0 0 0 64\n3 0 64 64 1 0 64\n"
    -- "time_out 0 status 3, and accepted with NOWAIT at count 1"; at count 0 it is 10
    ∷ case 5
    (call 8 (1 ∷ 1 ∷ 0 ∷ []) ∷ call 11 (64 ∷ 0 ∷ 0 ∷ []) ∷ call 13 (64 ∷ []) ∷ call 11 (64 ∷ 1 ∷ 0 ∷ [])
    ∷ call 13 (64 ∷ []) ∷ call 11 (64 ∷ 1 ∷ 0 ∷ []) ∷ [])
    "1 0 64 0 0 0 64\n2 3 0 0 0 0 64\n3 0 0 1 0 0 64\n4 0 0 0 0 0 64\n5 0 0 0 0 0 64\n6 10 0 0 0 0 64\n"
    -- time_out 1 and 65,535 accepted, 65,536 status 3
    ∷ case 5
    (call 8 (1 ∷ 3 ∷ 0 ∷ []) ∷ call 11 (64 ∷ 0 ∷ 1 ∷ []) ∷ call 11 (64 ∷ 0 ∷ 65535 ∷ []) ∷ call 11 (64 ∷ 0 ∷ 65536 ∷ []) ∷ [])
    "1 0 64 0 0 0 64\n2 0 0 0 0 0 64\n3 0 0 0 0 0 64\n4 3 0 0 0 0 64\n"
    -- "identifier 0 as semaphore status 4; a deleted identifier 5"; a live one 0
    ∷ case 5
    (call 12 (0 ∷ []) ∷ call 8 (1 ∷ 1 ∷ 0 ∷ []) ∷ call 12 (64 ∷ []) ∷ call 9 (64 ∷ []) ∷ call 12 (64 ∷ [])
    ∷ call 12 (0 ∷ []) ∷ [])
    "1 4 0 0 0 0 64\n2 0 64 0 0 0 64\n3 0 0 0 0 0 64\n4 0 0 0 0 0 64\n5 5 0 0 0 0 64\n6 4 0 0 0 0 64\n"
    -- "a tick with mark 0 status 25", with mark 1 accepted
    ∷ case 5
    (call 0 [] ∷ interrupt 0 [] ∷ [])
    "1 25 0 0 0 0 64\n2 0 0 0 0 0 64\n"
    -- M-101: "a time_out runs on during suspension": of three ticks two find task 65 suspended; it is woken with 13 at the third, its one
    -- is given back, and it is ready when resumed
    ∷ case 5
    (call 8 (7 ∷ 0 ∷ 0 ∷ []) ∷ call 1 (9 ∷ 8 ∷ []) ∷ call 4 (65 ∷ []) ∷ call 11 (64 ∷ 0 ∷ 3 ∷ []) ∷ interrupt 0 []
    ∷ call 5 (65 ∷ []) ∷ interrupt 0 [] ∷ call 13 (64 ∷ []) ∷ interrupt 0 [] ∷ call 13 (64 ∷ []) ∷ call 6 (65 ∷ []) ∷ [])
    "1 0 64 0 0 0 64\n2 0 65 0 0 0 64\n3 0 0 0 0 0 65\n4 1 0 0 0 0 64\n5 0 0 0 0 0 64\n6 0 0 0 0 0 64\n7 0 0 0 0 0 64\n8 0 0 -1 1 0 64\n9 0 0 0 0 0 64 65:13\n10 0 0 0 0 0 64\n11 0 0 0 0 0 65\n"
    -- M-103: "pool_get_buff now gives the buffer that has been free longest; in a new pool, ascending addresses": 4,096 comes back and
    -- is given after 4,128 and 4,160, which were never given before; then 4,160 and 4,128 are given in the order of their return
    ∷ case 5
    (call 14 (1 ∷ 4096 ∷ 100 ∷ 32 ∷ 0 ∷ []) ∷ call 17 (64 ∷ []) ∷ call 18 (64 ∷ 4096 ∷ []) ∷ call 17 (64 ∷ []) ∷ call 17 (64 ∷ [])
    ∷ call 17 (64 ∷ []) ∷ call 18 (64 ∷ 4160 ∷ []) ∷ call 18 (64 ∷ 4128 ∷ []) ∷ call 17 (64 ∷ []) ∷ call 17 (64 ∷ []) ∷ [])
    "1 0 64 0 0 0 64\n2 0 4096 0 0 0 64\n3 0 0 0 0 0 64\n4 0 4128 0 0 0 64\n5 0 4160 0 0 0 64\n6 0 4096 0 0 0 64\n7 0 0 0 0 0 64\n8 0 0 0 0 0 64\n9 0 4160 0 0 0 64\n10 0 4128 0 0 0 64\n"
    -- M-100: "a delivery reads `task:0:length`"; the send of 3 bytes is held, and an immediate receive's "first figure is its length";
    -- of 64 bytes, which a script always lends, 12 are its own, and 65 are 27
    ∷ case 5
    (call 20 (7 ∷ 1 ∷ 64 ∷ 0 ∷ []) ∷ call 1 (9 ∷ 8 ∷ []) ∷ call 4 (65 ∷ []) ∷ call 25 (64 ∷ 0 ∷ FOREVER ∷ []) ∷ call 24 (64 ∷ 65 ∷ [])
    ∷ interrupt 23 (64 ∷ 64 ∷ 1 ∷ 2 ∷ 3 ∷ []) ∷ call 23 (64 ∷ 3 ∷ 1 ∷ []) ∷ call 24 (64 ∷ 0 ∷ []) ∷ call 25 (64 ∷ 0 ∷ 1 ∷ []) ∷ [])
    "1 0 64 0 0 0 64\n2 0 65 0 0 0 64\n3 0 0 0 0 0 65\n4 1 0 0 0 0 64\n5 27 0 0 0 0 64\n6 0 0 0 0 0 65 65:0:64\n7 0 0 0 0 0 65\n8 28 0 0 0 0 65\n9 0 3 0 0 0 65\n"
    ∷ []

-- a number's four bytes, least first
abbrev pub bytes32 : ℕ → List ℕ
bytes32 n = n % 256 ∷ n / 256 % 256 ∷ n / 65536 % 256 ∷ n / 16777216 % 256 ∷ []

-- seven numbers, zeros where the row names fewer
abbrev pub record_bytes : List ℕ → List ℕ
record_bytes r =
    bytes32 (get_or r 0 0) ++ (bytes32 (get_or r 1 0) ++ (bytes32 (get_or r 2 0) ++ (bytes32 (get_or r 3 0)
    ++ (bytes32 (get_or r 4 0) ++ (bytes32 (get_or r 5 0) ++ bytes32 (get_or r 6 0))))))

abbrev pub all_bytes : List (List ℕ) → List ℕ
all_bytes [] = []
all_bytes (r ∷ rs) = record_bytes r ++ all_bytes rs

abbrev pub script_of : Case → List ℕ
script_of c =
    bytes32 (length c.records) ++ (bytes32 16 ++ (bytes32 c.priority ++ (bytes32 0 ++ all_bytes c.records)))

-- the bytes of a text, n of them from place k
abbrev pub text_bytes : String → ℕ → ℕ → List ℕ
text_bytes s zero k = []
text_bytes s (suc n) k = code (char_at s k) ∷ text_bytes s n (suc k)

abbrev pub same : List ℕ → List ℕ → Bool
same [] [] = true
same [] (y ∷ ys) = false
same (x ∷ xs) [] = false
same (x ∷ xs) (y ∷ ys) = eqb x y && same xs ys

abbrev pub passes : Case → Bool
passes c = same (listing (script_of c)) (text_bytes c.lines (len c.lines) 0)

abbrev pub all_pass : List Case → Bool
all_pass [] = true
all_pass (c ∷ cs) = passes c && all_pass cs
