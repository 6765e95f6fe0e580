-- A kind's number as it stands in an image, before it is read as a kind.
use Prim.Native.Nat.{ℕ, ◌≤◌, ◌<◌}
use native.Mathlib.Omega.{arith}
use mathlib.Core.Path.{◌≡◌, refl, sym, ap, ◌∙◌}
use mathlib.Core.List.{List}
use lib.Dec.{leb, eqb}
use lib.ListN.{get_or}
use borrow.Author.Tests.{leb-true, leb-false, eq-eqb, ne_eqb}
use Rattle.lists.proofs.Tests.{Case, pass, fail, case}
use Rattle.tables.specs.declared.Ticket.{Ticket}
use Rattle.tables.specs.Names.{free}
use Rattle.image.specs.Numbers.{number_at}
use Rattle.image.specs.Image.{kind_number, kind_of, ticket_start}
use Rattle.image.proofs.RoundTrip.{kind_again}
use Rattle.image_read.specs.Places.{tickets_in}
use Rattle.image_read.proofs.Places.{kind_here}
use Rattle.image_numbers.specs.Numbers.{number_if}

no_kind : (n : ℕ) → 4 < n → kind_number (kind_of n) ≡ 0
unfolding kind_of
no_kind n h =
    rw (
      ne_eqb n 1 (λ e. omega (arith, e, h)),
      ne_eqb n 2 (λ e. omega (arith, e, h)),
      ne_eqb n 3 (λ e. omega (arith, e, h)),
      ne_eqb n 4 (λ e. omega (arith, e, h)),
    ) refl

module _ (image : List ℕ) (place kind : ℕ) (low : place < 256) (some : 1 ≤ kind) (most : kind ≤ 4) where
  abbrev said : ℕ
  said = number_at (ticket_start place) image

  abbrev here : Ticket
  here = get_or (tickets_in image) place free

  kind_told : kind_number here.kind ≡ kind_number (kind_of said)
  kind_told = ap kind_number (kind_here image place low)

  pub other_kind : (said ≡ kind → ⊥) → 0 ≡ number_if (λ k. eqb (kind_number k.kind) kind) here
  unfolding number_if
  other_kind ne = rw (ne_eqb (kind_number here.kind) kind (λ e. not_it (case (leb said 4)) (sym kind_told ∙ e))) refl
    where
      not_it : Case (leb said 4) → kind_number (kind_of said) ≡ kind → ⊥
      not_it (pass h) e = ne (sym (kind_again said (leb-true said 4 h)) ∙ e)
      not_it (fail h) e = omega (arith, no_kind said (leb-false said 4 h), e, some)

  pub this_kind : said ≡ kind → here.number ≡ number_if (λ k. eqb (kind_number k.kind) kind) here
  unfolding number_if
  this_kind e = rw (eq-eqb (kind_number here.kind) kind (kind_told ∙ kind_again said (omega (arith, e, most)) ∙ e)) refl
