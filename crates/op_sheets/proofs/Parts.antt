-- A part of the store that is lent to a routine: which sheets it is, and the store with what came back in its place.
use Prim.Native.Nat.{ℕ, ◌+◌, ◌*◌}
use mathlib.Core.Path.{◌≡◌, sym}
use mathlib.Core.List.{List, append_assoc}
use lib.ListN.{length, take, drop}
use lib.Seq.{drop-drop}
use borrow.Rule.Slice.PartMut.{put_mid}
use Rattle.machine.specs.State.{sheet_at, put_sheets}

-- k bytes from a sheet's start were lent
module _ (store : List ℕ) (sheet k : ℕ) where
  pub lent_sheet : k ≡ 64 → take k (drop (64 * sheet) store) ≡ sheet_at sheet store
  unfolding sheet_at
  lent_sheet e = rw e

  -- as many came back
  pub put_back : (bytes back : List ℕ) → back ≡ bytes → k ≡ length bytes → put_mid (64 * sheet) k store back ≡ put_sheets sheet bytes store
  unfolding put_sheets
  put_back bytes back same e =
      rw (same, e, drop-drop (length bytes) (64 * sheet) store)
      (sym (append_assoc (take (64 * sheet) store) bytes (drop (64 * sheet + length bytes) store)))
