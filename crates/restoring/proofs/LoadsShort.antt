-- Loading needs no limit of length: a text that loads is what saving would write, and that is short.
use Prim.Native.Nat.{ℕ, ◌≤◌}
use mathlib.Core.Path.{◌≡◌, subst}
use mathlib.Core.List.{List}
use lib.ListN.{length}
use Rattle.saved.specs.Save.{saved_room}
use Rattle.saved.specs.Load.{load}
use Rattle.saved_laws.proofs.LoadedIsSaved.{loaded_is_saved}
use Rattle.restoring.proofs.SavedShort.{saved_short}
use Rattle.restoring.proofs.LoadingSound.{loading_is_sound}

pub loads_short : (text : List ℕ) → (load text).result ≡ 0 → length text ≤ saved_room
loads_short text e =
    let s = loading_is_sound text in
    subst (λ (l : List ℕ). length l ≤ saved_room) (loaded_is_saved text e) (saved_short (load text).tables s.sized s.fit s.order)
