use Rattle.std.proofs.Common.{arith}
use Rattle.tables.specs.Names.{no_entry}
use Rattle.tables.specs.Change.{is_spare}
use Rattle.image_read.specs.Places.{entries_in}
use Rattle.image_read.proofs.Places.{entries_long}
use Rattle.image_find.proofs.First.{first_is}
use Rattle.image_find.proofs.spare_place.Goals as goal

pub returns : goal.returns
unfolding is_spare
returns c =
    let s = c.first_place.ensures in
    let long = entries_long c.args.image.now in
    first_is is_spare no_entry (entries_in c.args.image.now) c.first_place.result (omega (arith, long))
    (λ j h. let q = s.before j h in cc) (λ h. let q = s.there (omega (arith, long)) in cc)
