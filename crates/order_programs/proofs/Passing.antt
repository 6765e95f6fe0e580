-- The pass over the tickets: after i places each kind is one of the five, the numbers are written and the places listed.
use Prim.Native.Nat.{ℕ, ◌+◌, ◌≤◌, ◌<◌}
use native.Mathlib.Omega.{arith}
use mathlib.Core.Path.{◌≡◌, refl, sym, ap, ◌∙◌}
use mathlib.Core.Bool.{Bool, true, false, ◌&&◌}
use mathlib.Core.List.{List}
use mir.Val.{bool_byte as from_bool}
use lib.Dec.{leb}
use lib.ListN.{length, get_or, set, replicate, length-set}
use borrow.Author.Count.{below_more}
use borrow.Author.Tests.{le-leb, lt-leb}
use Rattle.lists.specs.Tests.{between}
use Rattle.lists.proofs.Tests.{contradiction, cannot_pass, and_l, and_r, and_intro}
use Rattle.lists.proofs.PartLaws.{every_intro, every_broken}
use Rattle.tables.specs.declared.{Kind.Kind, Ticket.Ticket, Tables.Tables}
use Rattle.tables.specs.Kinds.{is_live, is_taken, is_child, is_recall}
use Rattle.tables.specs.Names.{free}
use Rattle.tables.specs.Lookup.{Sized}
use Rattle.tables.specs.Order.{t1, t2, t4}
use Rattle.tables.proofs.KindLaws.{live_taken, live_child, live_recall}
use Rattle.image.specs.Numbers.{number_at}
use Rattle.image.specs.Image.{kind_of, ticket_start, kinds_ok}
use Rattle.image_read.specs.Places.{tickets_in, lasts_in}
use Rattle.image.proofs.KindNumbers.{free_kind, live_kind}
use Rattle.image_read.proofs.Places.{tickets_long, kind_here}
use Rattle.image_places.specs.Places.{name_at, Flattened}
use Rattle.order_lists.specs.Listing.{Listing}
use Rattle.order_lists.proofs.Turns.{listed_none, listed_turn, listed_past, listed_to}
use Rattle.order_programs.specs.Parts.{is_new, grant_ok, before, ticket_ok, Indexed}
use Rattle.order_programs.proofs.Numbers.{PlaceOk, SoFar, none_yet, all_written, dead_turn, live_turn}
use Rattle.order_programs.proofs.Programs.{rules_pass, ticket_fails}

abbrev was_taken : Ticket → Bool
was_taken k = is_taken k.kind

abbrev is_under : Ticket → Bool
is_under k = is_child k.kind

abbrev asks_back : Ticket → Bool
asks_back k = is_recall k.kind

module _ (image : List ℕ) where
  abbrev ks : List Ticket
  ks = tickets_in image

  abbrev ls : List ℕ
  ls = lasts_in image

  abbrev said : ℕ → ℕ
  said p = number_at (ticket_start p) image

  pub record Passed (i : ℕ) (numbers taken children recalls : List ℕ) (a b c : ℕ) : Type 0 where
    pub kinds : (p : ℕ) → p < i → leb (number_at (ticket_start p) image) 4 ≡ true
    pub so : SoFar (tickets_in image) (lasts_in image) i numbers
    pub long : (length taken ≡ 256) × ((length children ≡ 256) × (length recalls ≡ 256))
    pub taken_listed : Listing free (λ k. is_taken k.kind) (tickets_in image) i taken a
    pub children_listed : Listing free (λ k. is_child k.kind) (tickets_in image) i children b
    pub recalls_listed : Listing free (λ k. is_recall k.kind) (tickets_in image) i recalls c

  pub passed_none : (numbers taken children recalls : List ℕ) → numbers ≡ replicate {A = ℕ} 256 0
      → (length taken ≡ 256) × ((length children ≡ 256) × (length recalls ≡ 256)) → Passed 0 numbers taken children recalls 0 0 0
  passed_none numbers taken children recalls e long = record {
    kinds = λ p h. absurd (omega (arith, h));
    so = none_yet ks ls numbers e;
    long = long;
    taken_listed = listed_none free was_taken ks taken;
    children_listed = listed_none free is_under ks children;
    recalls_listed = listed_none free asks_back ks recalls;
  }

  module _ (i : ℕ) (numbers taken children recalls : List ℕ) (a b c : ℕ) (w : Passed i numbers taken children recalls a b c) (low : i < 256)
      (n : ℕ) (e : n ≡ number_at (ticket_start i) image) where
    kind_said : (get_or ks i free).kind ≡ kind_of n
    kind_said = kind_here image i low ∙ ap kind_of (sym e)

    -- ---- a kind that is none of the five
    pub bad_kind : 4 < n → kinds_ok image ≡ false
    unfolding kinds_ok
    bad_kind h = sym (every_broken 256 (λ p. leb (said p) 4) i low (lt-leb (said i) 4 (omega (arith, e, h))))

    module _ (five : n ≤ 4) where
      kinds_more : (p : ℕ) → p < i + 1 → leb (said p) 4 ≡ true
      kinds_more = below_more _ i w.kinds (le-leb (said i) 4 (omega (arith, e, five)))

      -- ---- a place without a ticket
      module _ (z : n ≡ 0) where
        free_here : is_live (get_or ks i free).kind ≡ false
        free_here = ap is_live kind_said ∙ free_kind n z

        past : (test : Kind → Bool) → ((k : Kind) → test k ≡ true → is_live k ≡ true) → test (get_or ks i free).kind ≡ false
        past test lives = cannot_pass (test (get_or ks i free).kind) (λ y. contradiction (lives (get_or ks i free).kind y) free_here)

        pub passed_free : Passed (i + 1) numbers taken children recalls a b c
        passed_free = record {
          kinds = kinds_more;
          so = dead_turn ks ls i numbers w.so low free_here;
          long = w.long;
          taken_listed = listed_past free was_taken ks i taken a w.taken_listed (omega (arith, w.long.0, low)) (get_or ks i free) refl (past is_taken live_taken);
          children_listed = listed_past free is_under ks i children b w.children_listed (omega (arith, w.long.1.0, low)) (get_or ks i free) refl (past is_child live_child);
          recalls_listed = listed_past free asks_back ks i recalls c w.recalls_listed (omega (arith, w.long.1.1, low)) (get_or ks i free) refl (past is_recall live_recall);
        }

      -- ---- a ticket, as the code reads it
      module _ (some : n ≡ 0 → ⊥) (k : Ticket) (here : k ≡ get_or ks i free) where
        live_here : is_live (get_or ks i free).kind ≡ true
        live_here = ap is_live kind_said ∙ live_kind n some five

        pub bad_ticket : ticket_ok ls numbers i k ≡ false → (t : Tables) → Sized t → Flattened t (tickets_in image) (lasts_in image)
            → (t1 t && t2 t && t4 t) ≡ false
        bad_ticket f t z flat = ticket_fails t z ks ls flat i numbers w.so low k here live_here f

        module _ (ok : ticket_ok ls numbers i k ≡ true) where
          told : ticket_ok ls numbers i (get_or ks i free) ≡ true
          told = ap (ticket_ok ls numbers i) (sym here) ∙ ok

          new_here : is_new (get_or ks i free).number (before i numbers) ≡ true
          unfolding ticket_ok
          new_here = and_r (between 1 _ _) _ (and_l _ (grant_ok (name_at i (get_or ks i free)) (get_or ks i free)) told)

          place_ok : PlaceOk ks ls i
          unfolding ticket_ok
          place_ok = record {
            range = λ _. and_l (between 1 _ _) _ (and_l _ (grant_ok (name_at i (get_or ks i free)) (get_or ks i free)) told);
            grant = and_r (between 1 _ (get_or ks i free).number && is_new (get_or ks i free).number (before i numbers)) _ told;
          }

          module _ (x y z : Bool) (ex : x ≡ is_taken k.kind) (ey : y ≡ is_child k.kind) (ez : z ≡ is_recall k.kind)
              (p q r : ℕ) (ep : p ≡ from_bool x) (eq : q ≡ from_bool y) (er : r ≡ from_bool z) where
            pub passed_live : Passed (i + 1) (set numbers i k.number) (set taken a i) (set children b i) (set recalls c i) (a + p) (b + q) (c + r)
            passed_live = record {
              kinds = kinds_more;
              so = live_turn ks ls i numbers w.so low live_here new_here place_ok k.number (ap (λ (m : Ticket). m.number) here);
              long = (length-set taken a i ∙ w.long.0, (length-set children b i ∙ w.long.1.0, length-set recalls c i ∙ w.long.1.1));
              taken_listed = listed_turn free was_taken ks i taken a w.taken_listed (omega (arith, w.long.0, low)) k here x ex p ep;
              children_listed = listed_turn free is_under ks i children b w.children_listed (omega (arith, w.long.1.0, low)) k here y ey q eq;
              recalls_listed = listed_turn free asks_back ks i recalls c w.recalls_listed (omega (arith, w.long.1.1, low)) k here z ez r er;
            }

  -- ---- the end
  module _ (i : ℕ) (numbers taken children recalls : List ℕ) (a b c : ℕ) (w : Passed i numbers taken children recalls a b c) (end : i ≡ 256) where
    pub all_pass : (t : Tables) → Sized t → Flattened t (tickets_in image) (lasts_in image) → (kinds_ok image && (t1 t && t2 t && t4 t)) ≡ true
    unfolding kinds_ok
    all_pass t z flat =
        and_intro (every_intro 256 (λ p. leb (said p) 4) (λ p h. w.kinds p (omega (arith, end, h))))
        (rules_pass t z ks ls flat (λ p h. w.so.ok p (omega (arith, end, h))) (λ p q g h. w.so.apart p q g (omega (arith, end, h))))

    pub all_indexed : Indexed (tickets_in image) numbers taken children recalls a b c
    all_indexed = record {
      written = all_written ks ls i numbers (tickets_long image) (omega (arith, end)) w.so;
      taken_listed = listed_to free was_taken ks end w.taken_listed;
      children_listed = listed_to free is_under ks end w.children_listed;
      recalls_listed = listed_to free asks_back ks end w.recalls_listed;
    }
