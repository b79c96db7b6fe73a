-- "Identifiers", over a table of any size: `serial`, `live` and `name` are its columns, a place for each slot.
-- Assumes nothing.
use Rattle.std.specs.Prelude.{ℕ, ◌+◌, ◌*◌, ◌/◌, ◌%◌, Bool, false, not, ◌&&◌, List, length, get_or, ltb, leb, eqb}
use Rattle.scope.specs.declared.Found.{Found}
use Rattle.scope.specs.declared.Found.TheVariants.{At, Deleted, Invalid}
use Rattle.scope.specs.Choice.{pick, least}

-- "An identifier is serial × 64 + slot. Slots count from 0."
abbrev pub identifier : ℕ → ℕ → ℕ
identifier serial slot = serial * 64 + slot

abbrev pub serial_of : ℕ → ℕ
serial_of id = id / 64

abbrev pub slot_of : ℕ → ℕ
slot_of id = id % 64

-- "each later one the next serial, up to 65,535; after that the slot is never used again"
abbrev pub last_serial : ℕ
last_serial = 65535

-- its serial "has been issued": a slot's serial is that of its latest object, so the slot has issued the serials from 1 to it
abbrev pub issued : List ℕ → ℕ → Bool
issued serial id = leb (serial_of id) (get_or serial (slot_of id) 0)

-- its serial is the slot's live one
abbrev pub is_live : List ℕ → List Bool → ℕ → Bool
is_live serial live id = get_or live (slot_of id) false && eqb (get_or serial (slot_of id) 0) (serial_of id)

-- "An identifier whose slot is in the table and whose serial is the slot's live one names that object. If the serial is 1 or
-- more, has been issued and is not live: OBJECT_DELETED. Everything else: INVALID_ID."
unfoldable pub found : List ℕ → List Bool → ℕ → Found
found serial live id =
    pick (leb (length serial) (slot_of id)) Invalid
    (pick (eqb (serial_of id) 0) Invalid
    (pick (not (issued serial id)) Invalid
    (pick (is_live serial live id) (At (slot_of id)) Deleted)))

-- free, and has a serial left
unfoldable pub usable : List ℕ → List Bool → ℕ → Bool
usable serial live k = not (get_or live k false) && ltb (get_or serial k 0) last_serial

-- "Creation takes the lowest slot that is free and has a serial left." The table's size where there is none.
unfoldable pub lowest_usable : List ℕ → List Bool → ℕ
lowest_usable serial live = least (usable serial live) (length serial)

-- live, and so named
unfoldable pub named : List Bool → List ℕ → ℕ → ℕ → Bool
named live name x k = get_or live k false && eqb (get_or name k 0) x

-- "Ident answers the live object of that name in the lowest slot." The table's size where there is none.
unfoldable pub by_name : List Bool → List ℕ → ℕ → ℕ
by_name live name x = least (named live name x) (length live)
