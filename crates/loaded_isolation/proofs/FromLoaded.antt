-- "The isolation rule may now also begin, in both sequences, from the same loaded tables and one common store": loading is sound, so this
-- is isolation from any common start.
use Rattle.isolation.proofs.Isolation.{isolation_from_any}
use Rattle.saved.specs.Claims.{with_loaded, IsolatedFromLoaded}
use Rattle.restoring.proofs.LoadingSound.{loading_is_sound}

pub isolated_from_loaded : IsolatedFromLoaded
isolated_from_loaded g text store sheet long unlinked is js =
    let sound = loading_is_sound text in
    isolation_from_any g (with_loaded text store sheet) (record { sized = sound.sized; order = sound.order; unlinked = unlinked; store = long }) is js
