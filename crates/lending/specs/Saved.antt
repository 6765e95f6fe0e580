-- The tables that a host lends, saved as text into an output that it lends, and loaded from a text that it lends. The store is in no text:
-- neither routine is handed one.
use Rattle.std.specs.Prelude.{ℕ, ◌≡◌, not, cond, List, leb, eqb, length}
use Rattle.machine.specs.Refusal.{◌when◌else◌}
use Rattle.image.specs.Layout.{image_size}
use Rattle.image.specs.Image.{encode, decode}
use Rattle.text.specs.Writing.{written}
use Rattle.saved.specs.Save.{saved}
use Rattle.saved.specs.Load.{load}
use Rattle.lending.specs.Batch.{tables_ok}

-- ---- saving; the tables are only read
pub record SaveBuffers : Type 0 where
  pub tables : List ℕ
  pub output : List ℕ

-- 13 the tables have another length; "when saving, 14, then 17 for too short an output"
unfoldable pub save_refusal : SaveBuffers → ℕ
save_refusal b =
    let order = tables_ok b.tables in
    let fits = leb (length (saved (decode b.tables))) (length b.output) in
    13 when not (eqb (length b.tables) image_size) else
    14 when not order else
    17 when not fits else
    0

pub record SaveLeft : Type 0 where
  pub result : ℕ
  pub output : List ℕ
  pub size : ℕ

-- "One written into a lent output changes only its own bytes; the answer carries its length, 0 with a refusal, which leaves the output
-- unchanged."
unfoldable pub save_lent : SaveBuffers → SaveLeft
save_lent b =
    let refusal = save_refusal b in
    let text = saved (decode b.tables) in
    let served : SaveLeft = record { result = 0; output = written text b.output; size = length text } in
    let refused : SaveLeft = record { result = refusal; output = b.output; size = 0 } in
    cond (eqb refusal 0) served refused

-- ---- loading
pub record LoadLeft : Type 0 where
  pub result : ℕ
  pub tables : List ℕ

-- 13 the tables have another length, and nothing changes; else what `load` answers, with its tables as their image: "A refused load gives
-- empty tables."
unfoldable pub load_lent : List ℕ → List ℕ → LoadLeft
load_lent tables text =
    let loaded : LoadLeft = record { result = (load text).result; tables = encode (load text).tables } in
    let refused : LoadLeft = record { result = 13; tables = tables } in
    cond (eqb (length tables) image_size) loaded refused

-- ---- contracts
abbrev pub save_buffers : List ℕ → List ℕ → SaveBuffers
save_buffers tables output = record { tables = tables; output = output }

-- what a call leaves, field by field
pub record SavesLent (b : SaveBuffers) (result' : ℕ) (output' : List ℕ) (size' : ℕ) : Type 0 where
  pub result : result' ≡ (save_lent b).result
  pub output : output' ≡ (save_lent b).output
  pub size : size' ≡ (save_lent b).size

pub record LoadsLent (image text : List ℕ) (result' : ℕ) (tables' : List ℕ) : Type 0 where
  pub result : result' ≡ (load_lent image text).result
  pub tables : tables' ≡ (load_lent image text).tables
  -- the image is read as the tables that were loaded, so that the next call finds them
  pub decoded : length image ≡ image_size → decode tables' ≡ (load text).tables
