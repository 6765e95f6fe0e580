-- What is claimed of saving and loading: each is a statement, proved in saved_laws, restoring and loaded_isolation.
use Rattle.std.specs.Prelude.{ℕ, ◌≤◌, ◌<◌, ◌≡◌, Bool, true, cond, List, ltb, eqb, length}
use Rattle.tables.specs.declared.Tables.{Tables}
use Rattle.tables.specs.Lookup.{Sized, last_of}
use Rattle.tables.specs.Order.{in_order}
use Rattle.tables.specs.Same.{SameTables}
use Rattle.machine.specs.State.{State}
use Rattle.machine.specs.Sequence.{Sent, Group}
use Rattle.machine.specs.Isolation.{Isolated, Unlinked}
use Rattle.saved.specs.declared.Row.{Row}
use Rattle.saved.specs.Row.{row_ok, key}
use Rattle.saved.specs.Save.{saved, saved_room}
use Rattle.saved.specs.Load.{load}

-- ---- the order of lines
-- "Lines stand by kind, pad, program, number": by the first column in which they differ
unfoldable pub stands_before : Row → Row → Bool
stands_before x y =
    cond (eqb x.kind y.kind)
    (cond (eqb x.pad y.pad) (cond (eqb x.program y.program) (ltb x.number y.number) (ltb x.program y.program)) (ltb x.pad y.pad))
    (ltb x.kind y.kind)

-- of lines in form the order of keys is this one
abbrev pub KeyOrder : Type 0
KeyOrder = (x y : Row) → row_ok x ≡ true → row_ok y ≡ true → x.number ≤ 65535 → y.number ≤ 65535 → ltb (key x) (key y) ≡ stands_before x y

-- ---- there and back
-- last numbers of 16 bits: "up to 65,535"
abbrev pub NumbersFit : Tables → Type 0
NumbersFit t = (pad program : ℕ) → pad < 4 → program < 8 → last_of t pad program ≤ 65535

-- "Loading what was saved restores the tables"
pub record Restores (t : Tables) : Type 0 where
  pub accepted : (load (saved t)).result ≡ 0
  pub same : SameTables t (load (saved t)).tables

abbrev pub LoadingRestores : Type 0
LoadingRestores = (t : Tables) → Sized t → NumbersFit t → in_order t ≡ true → Restores t

-- "any text that loads is what saving would write"
abbrev pub LoadedIsSaved : Type 0
LoadedIsSaved = (text : List ℕ) → (load text).result ≡ 0 → saved (load text).tables ≡ text

-- of any text, refused ones too: tables in order, of the arrays' lengths
pub record Sound (t : Tables) : Type 0 where
  pub sized : Sized t
  pub order : in_order t ≡ true
  pub fit : NumbersFit t

abbrev pub LoadingIsSound : Type 0
LoadingIsSound = (text : List ℕ) → Sound (load text).tables

-- places are not in the text: tables that are the same have the same one
abbrev pub SameSaved : Type 0
SameSaved =
    (t u : Tables) → Sized t → Sized u → NumbersFit t → NumbersFit u → in_order t ≡ true → in_order u ≡ true → SameTables t u → saved t ≡ saved u

-- a buffer that every saved text fits into
abbrev pub SavedShort : Type 0
SavedShort = (t : Tables) → Sized t → NumbersFit t → in_order t ≡ true → length (saved t) ≤ saved_room

-- "The isolation rule may now also begin, in both sequences, from the same loaded tables and one common store, where no parent, recall or
-- entry link joins the group to others."
abbrev pub with_loaded : List ℕ → List ℕ → List ℕ → State
with_loaded text store sheet = record { tables = (load text).tables; store = store; sheet = sheet }

abbrev pub IsolatedFromLoaded : Type 0
IsolatedFromLoaded =
    (g : Group) (text store sheet : List ℕ) → length store ≡ 16384 → Unlinked g (load text).tables
    → (is js : List Sent) → Isolated g (with_loaded text store sheet) is js
