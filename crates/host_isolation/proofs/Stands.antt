-- A host's dock that stands for a state in order: its image is that of the tables, and is read as them. Such a dock is whole and passes the
-- order test. An emptied dock stands for the machine's, one that loaded a text for the text's tables beside its store, and one that passes
-- the order test for what its bytes say.
use Prim.Native.Nat.{ℕ, ◌<◌}
use native.Mathlib.Omega.{arith}
use mathlib.Core.Path.{◌≡◌, refl, sym, ap, ◌∙◌}
use mathlib.Core.Bool.{true}
use mathlib.Core.List.{List, []}
use lib.ListN.{length, get_or}
use borrow.Author.Tests.{eq-eqb}
use Rattle.lists.proofs.Tests.{Case, pass, fail, case, and_l, and_r, and_intro}
use Rattle.tables.specs.Names.{empty_tables}
use Rattle.tables.specs.Order.{in_order}
use Rattle.machine.specs.State.{State}
use Rattle.machine.specs.Refusal.{◌when◌else◌}
use Rattle.machine.specs.Empty.{emptied, empty_dock, empty_store}
use Rattle.preservation.specs.InOrder.{DockOk}
use Rattle.preservation.proofs.TestMeansOrder.{test_means_order}
use Rattle.preservation.proofs.OrderPassesTest.{order_passes_test}
use Rattle.preservation.proofs.StepKeepsOrder.{empty_dock_ok}
use Rattle.image.specs.Layout.{image_size}
use Rattle.image.specs.Image.{encode, decode, is_image}
use Rattle.image.proofs.RoundTrip.{decode_encode, encode_decode, encode_is_image, image_whole}
use Rattle.image_find.proofs.Laws.{decoded_sized}
use Rattle.lending.specs.Batch.{tables_ok}
use Rattle.lending.specs.Host.{EmptiedImage, empty_image, order_of}
use Rattle.lending.specs.Trace.{dock_of}
use Rattle.lending.specs.Saved.{LoadLeft, load_lent}
use Rattle.saved.specs.Load.{load}
use Rattle.saved.specs.Claims.{with_loaded}
use Rattle.restoring.proofs.LoadingSound.{loading_is_sound}
use Rattle.host_isolation.specs.Calls.{Dock, WholeDock, emptying, loading, left}

pub record Stands (d : Dock) (s : State) : Type 0 where
  pub image : d.image ≡ encode s.tables
  pub store : d.store ≡ s.store
  pub ok : DockOk s

module _ (d : Dock) (s : State) (h : Stands d s) where
  pub decoded : decode d.image ≡ s.tables
  decoded = ap decode h.image ∙ decode_encode s.tables h.ok.tables.shape.sized

  pub is_image_lem : is_image d.image ≡ true
  is_image_lem = ap is_image h.image ∙ encode_is_image s.tables

  pub in_order_lem : in_order (decode d.image) ≡ true
  in_order_lem = ap in_order decoded ∙ order_passes_test s.tables h.ok.tables

  pub tables_ok_lem : tables_ok d.image ≡ true
  unfolding tables_ok
  tables_ok_lem = and_intro is_image_lem in_order_lem

  pub stands_whole : WholeDock d
  stands_whole = record { image = image_whole d.image is_image_lem; store = ap length h.store ∙ h.ok.store }

  pub order_0 : order_of d.image ≡ 0
  unfolding order_of ◌when◌else◌
  order_0 = rw (eq-eqb (length d.image) image_size stands_whole.image, tables_ok_lem)

-- ---- emptying
abbrev empty_of : EmptiedImage
empty_of = record { result = 0; tables = encode empty_tables; store = empty_store }

pub is_emptied : (image store : List ℕ) → length image ≡ image_size → length store ≡ 16384 → empty_image image store ≡ empty_of
unfolding empty_image emptied
is_emptied image store a b = rw (eq-eqb (length image) image_size a, eq-eqb (length store) 16384 b)

pub emptied_stands : (d : Dock) → WholeDock d → Stands (left d emptying) empty_dock
unfolding left empty_dock
emptied_stands d w =
    let e = is_emptied d.image d.store w.image w.store in
    record { image = λ i. (e i).tables; store = λ i. (e i).store; ok = empty_dock_ok }

-- ---- loading
abbrev load_of : List ℕ → LoadLeft
load_of text = record { result = (load text).result; tables = encode (load text).tables }

pub is_loaded : (image text : List ℕ) → length image ≡ image_size → load_lent image text ≡ load_of text
unfolding load_lent
is_loaded image text a = rw (eq-eqb (length image) image_size a)

pub loaded_ok : (text store : List ℕ) → length store ≡ 16384 → DockOk (with_loaded text store [])
loaded_ok text store long =
    let sound = loading_is_sound text in
    record { tables = test_means_order (load text).tables sound.sized sound.order; store = long }

pub loaded_stands : (d : Dock) → WholeDock d → (text store : List ℕ) → d.store ≡ store → Stands (left d (loading text)) (with_loaded text store [])
unfolding left
loaded_stands d w text store same =
    let e = is_loaded d.image text w.image in
    record { image = λ i. (e i).tables; store = same; ok = loaded_ok text store (ap length (sym same) ∙ w.store) }

-- ---- a dock whose order test answers 0 stands for what its bytes say
passed_order : (image : List ℕ) → Case (tables_ok image) → order_of image ≡ 0 → length image ≡ image_size → tables_ok image ≡ true
unfolding order_of ◌when◌else◌
passed_order image (pass e) z long = e
passed_order image (fail e) z long = let fourteen : ◌≡◌ {A = ℕ} 14 0 = rw (eq-eqb (length image) image_size long, e) at z in absurd (omega (arith, fourteen))

pub kept_stands : (d : Dock) → WholeDock d → ((i : ℕ) → get_or d.image i 0 < 256) → order_of d.image ≡ 0 → Stands d (dock_of d.image d.store)
unfolding tables_ok
kept_stands d w small z =
    let ok = passed_order d.image (case (tables_ok d.image)) z w.image in
    let is = and_l (is_image d.image) (in_order (decode d.image)) ok in
    record {
      image = sym (encode_decode d.image small is);
      store = refl;
      ok = record {
        tables = test_means_order (decode d.image) (decoded_sized d.image) (and_r (is_image d.image) (in_order (decode d.image)) ok);
        store = w.store;
      };
    }
