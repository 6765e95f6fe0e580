-- T6 put together: each recall by itself, no target with two recalls, every child with one. The keys settle the last two.
use Prim.Native.Nat.{ℕ, ◌+◌, ◌<◌}
use native.Mathlib.Omega.{arith}
use mathlib.Core.Path.{◌≡◌, refl, sym, ap, subst, ◌∙◌}
use mathlib.Core.Bool.{Bool, true, false, not, ◌&&◌}
use mathlib.Core.List.{List, map}
use lib.Dec.{eqb}
use lib.ListN.{length, get_or, drop}
use lib.Seq.{get_or-drop}
use Rattle.lists.specs.Lists.{all, some, no_two}
use Rattle.lists.proofs.Tests.{both_ways, not_pass, and_l, and_r, and_intro}
use Rattle.tables.specs.declared.{Ticket.Ticket, Entry.Entry, Tables.Tables}
use Rattle.lists.specs.Tests.{implies}
use Rattle.tables.specs.Names.{free}
use Rattle.tables.specs.Order.{every_ticket, every_entry, under_store, is_recalled, recall_ok, t6}
use Rattle.tables.proofs.Fits.{NameFits}
use Rattle.image.specs.Numbers.{number_at}
use Rattle.image.specs.Image.{read_ticket, ticket_start}
use Rattle.image_read.specs.Places.{tickets_in, lasts_in, entries_in}
use Rattle.image_read.proofs.Places.{ticket_here, entries_long}
use Rattle.order_lists.specs.Listing.{TicketsListed, ReceivedListed}
use Rattle.image_places.proofs.Laws.{every_placed, placed_every}
use Rattle.order_recall_marks.specs.Keys.{target_key, is_place, is_dead, Marked, is_marked}
use Rattle.order_recall_marks.proofs.Laws.{one_recall, has_recall, once_keys, keys_once, children_recalled, received_recalled}
use Rattle.order_recalls.specs.Recalls.{LaidOut, recall_holds}
use Rattle.tables.specs.Kinds.{is_child, is_recall}

-- a target's numbers fit 16 bits: each is two bytes
number_fits : (bytes : List ℕ) → ((i : ℕ) → get_or bytes i 0 < 256) → (start at : ℕ) → number_at at (drop start bytes) < 65536
number_fits bytes small start at =
    omega
    (arith, get_or-drop start bytes at 0, get_or-drop start bytes (at + 1) 0, small (start + at), small (start + (at + 1)))

target_fits : (bytes : List ℕ) → ((i : ℕ) → get_or bytes i 0 < 256) → (start : ℕ) → NameFits (read_ticket (drop start bytes)).other
unfolding read_ticket
target_fits bytes small start = record {
  pad = number_fits bytes small start 6;
  program = number_fits bytes small start 8;
  number = number_fits bytes small start 10;
}

pub targets_fit : (image : List ℕ) → ((i : ℕ) → get_or image i 0 < 256) → (p : ℕ) → p < 256 → NameFits (get_or (tickets_in image) p free).other
targets_fit image small p h =
    subst (λ (k : Ticket). NameFits k.other) (sym (ticket_here image p h)) (target_fits image small (ticket_start p))

module _ {t : Tables} {image numbers notes : List ℕ} (ix : LaidOut t image numbers notes) where
  abbrev each : Bool
  each = every_ticket is_recall (recall_holds t) t

  abbrev once : Bool
  once = every_ticket is_recall (one_recall t) t

  abbrev recalled : Bool
  recalled = every_ticket is_child (has_recall t) t

  recalls_by_part : every_ticket is_recall (recall_ok t) t ≡ (each && once)
  unfolding recall_ok recall_holds
  recalls_by_part =
      both_ways (every_ticket is_recall (recall_ok t) t) (each && once)
      (λ e. and_intro
      (placed_every t ix.numbered.sized is_recall (recall_holds t) (λ p h r. and_l (recall_holds t _ _) _ (every_placed t ix.numbered.sized is_recall (recall_ok t) e p h r)))
      (placed_every t ix.numbered.sized is_recall (one_recall t) (λ p h r. and_r (recall_holds t _ _) _ (every_placed t ix.numbered.sized is_recall (recall_ok t) e p h r))))
      (λ e. placed_every t ix.numbered.sized is_recall (recall_ok t)
      (λ p h r. and_intro
      (every_placed t ix.numbered.sized is_recall (recall_holds t) (and_l each once e) p h r)
      (every_placed t ix.numbered.sized is_recall (one_recall t) (and_r each once e) p h r)))

  abbrev lent : Bool
  lent = every_entry (λ e. implies (not (under_store e)) (is_recalled t e.name)) t

  by_part : t6 t ≡ (each && once && recalled && lent)
  unfolding t6
  by_part = ap (λ (b : Bool). b && recalled && lent) recalls_by_part

  pub not_each : each ≡ false → false ≡ t6 t
  not_each e = sym (by_part ∙ ap (λ (b : Bool). b && once && recalled && lent) e)

  module _ (fits : (p : ℕ) → p < 256 → NameFits (get_or (tickets_in image) p free).other) {keys : List ℕ} (keyed : keys ≡ map (target_key numbers) (tickets_in image)) where
    not_once : (counts : ℕ → Bool) → counts 256 ≡ false → no_two counts eqb keys ≡ false → false ≡ t6 t
    not_once counts none e =
        sym
        (not_pass (λ s. and_r each once (and_l (each && once) recalled (and_l (each && once && recalled) lent (sym by_part ∙ s))))
        (not_pass (once_keys t (tickets_in image) (lasts_in image) numbers ix.flat ix.numbered fits counts none) (ap (no_two counts eqb) (sym keyed) ∙ e)))

    pub two_places : no_two is_place eqb keys ≡ false → false ≡ t6 t
    two_places = not_once is_place refl

    pub two_dead : no_two is_dead eqb keys ≡ false → false ≡ t6 t
    two_dead = not_once is_dead refl

    -- where each recall holds and no target has two, the marks decide
    module _ (held : each ≡ true) (marks : List ℕ) (m : Marked keys marks true) (dead : no_two is_dead eqb keys ≡ true) where
      told : (p : ℕ) → p < 256 → is_marked marks p ≡ some (λ key. eqb key p) (map (target_key numbers) (tickets_in image))
      told p h = m.told refl p h ∙ ap (some (λ key. eqb key p)) keyed

      by_marks : t6 t ≡ (recalled && lent)
      by_marks =
          by_part ∙ ap (λ (b : Bool). b && once && recalled && lent) held
          ∙ ap (λ (b : Bool). b && recalled && lent)
          (keys_once t (tickets_in image) (lasts_in image) numbers ix.flat ix.numbered fits
          (ap (no_two is_place eqb) (sym keyed) ∙ sym m.once) (ap (no_two is_dead eqb) (sym keyed) ∙ dead))

      children_marked : (children : List ℕ) → TicketsListed (λ k. is_child k.kind) (tickets_in image) children → all (is_marked marks) children ≡ recalled
      children_marked = children_recalled t (tickets_in image) (lasts_in image) numbers ix.flat ix.numbered marks told

      pub child_unmarked : (children : List ℕ) → TicketsListed (λ k. is_child k.kind) (tickets_in image) children
          → all (is_marked marks) children ≡ false → false ≡ t6 t
      child_unmarked children listing e = sym (by_marks ∙ ap (λ (b : Bool). b && lent) (sym (children_marked children listing) ∙ e))

      pub whole : (children received : List ℕ) → TicketsListed (λ k. is_child k.kind) (tickets_in image) children
          → ReceivedListed numbers (entries_in image) received → all (is_marked marks) children ≡ true → all (is_marked marks) received ≡ t6 t
      whole children received listing grants e =
          received_recalled t (tickets_in image) (lasts_in image) numbers ix.flat ix.numbered marks told (ap length (sym ix.entries) ∙ entries_long image) received
          (subst (λ (es : List Entry). ReceivedListed numbers es received) ix.entries grants)
          ∙ sym (by_marks ∙ ap (λ (b : Bool). b && lent) (sym (children_marked children listing) ∙ e))
