-- "Every refusal leaves tables .. untouched, except 12": over lent bytes, the bytes themselves.
use Prim.Native.Nat.{ℕ, ◌<◌}
use mathlib.Core.Path.{◌≡◌, ap, ◌∙◌}
use mathlib.Core.Bool.{true}
use mathlib.Core.List.{List}
use lib.ListN.{get_or}
use Rattle.machine.specs.declared.Request.{Request}
use Rattle.machine.specs.State.{State, state_of}
use Rattle.machine.specs.Step.{step}
use Rattle.machine.proofs.Untouched.{refused_leaves}
use Rattle.image.specs.Image.{encode, decode, is_image}
use Rattle.image.proofs.RoundTrip.{encode_decode}

pub image_kept : (image store sheet : List ℕ) (r : Request) → ((i : ℕ) → get_or image i 0 < 256) → is_image image ≡ true
    → let o = step (state_of (decode image) store sheet) r in
    (o.answer.result ≡ 0 → ⊥) → (o.answer.result ≡ 12 → ⊥) → encode o.state.tables ≡ image
image_kept image store sheet r small is a b =
    ap (λ (s : State). encode s.tables) (refused_leaves (state_of (decode image) store sheet) r a b) ∙ encode_decode image small is
