-- The layout of the image: how long each record is and where each of its fields begins, in bytes. This is the one home of these numbers;
-- the constants of src/lib.rt are their names in code.
use Rattle.std.specs.Prelude.{ℕ}

-- ---- a ticket
abbrev pub ticket_kind_at : ℕ
ticket_kind_at = 0

abbrev pub ticket_number_at : ℕ
ticket_number_at = 2

abbrev pub ticket_own_at : ℕ
ticket_own_at = 4

abbrev pub ticket_other_at : ℕ
ticket_other_at = 6

abbrev pub ticket_first_at : ℕ
ticket_first_at = 12

abbrev pub ticket_count_at : ℕ
ticket_count_at = 14

abbrev pub ticket_rights_at : ℕ
ticket_rights_at = 16

abbrev pub ticket_dock_at : ℕ
ticket_dock_at = 18

abbrev pub ticket_size : ℕ
ticket_size = 24

-- ---- a program: its tickets, then its last number
abbrev pub program_last_at : ℕ
program_last_at = 192

abbrev pub program_size : ℕ
program_size = 194

-- ---- a pad: its programs
abbrev pub pad_size : ℕ
pad_size = 1552

-- ---- an entry
abbrev pub entry_live_at : ℕ
entry_live_at = 0

abbrev pub entry_name_at : ℕ
entry_name_at = 2

abbrev pub entry_parent_at : ℕ
entry_parent_at = 8

abbrev pub entry_first_at : ℕ
entry_first_at = 14

abbrev pub entry_count_at : ℕ
entry_count_at = 16

abbrev pub entry_rights_at : ℕ
entry_rights_at = 18

abbrev pub entry_size : ℕ
entry_size = 20

-- ---- the whole: the pads, then the entries
abbrev pub entries_at : ℕ
entries_at = 6208

abbrev pub entries_size : ℕ
entries_size = 5120

abbrev pub image_size : ℕ
image_size = 11328
