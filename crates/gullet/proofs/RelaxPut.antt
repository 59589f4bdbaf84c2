-- A token is put back behind a `\relax`.
use Rattle.std.proofs.Common.{◌++◌, refl}
use Rattle.tex_defs.specs.declared.Token.{Token}
use Rattle.tex_defs.specs.declared.Sizes.{Sizes}
use Rattle.tex_defs.specs.Places.{World}
use Rattle.plain_machine.specs.declared.broken.Broken.{Broken}
use Rattle.plain_machine.specs.Does.{Did}
use Rattle.plain_machine.specs.Plan.{put_one, frozen_relax}
use Rattle.plain_machine.proofs.Doing.{did_join}
use Rattle.engine_state.specs.declared.engine.Engine.{Engine}
use Rattle.engine_state.specs.Book.{Book}
use Rattle.engine_state.specs.CutReadings.{CutsIn}
use Rattle.engine_state.specs.Rules.{Cuts, Went}
use Rattle.engine_state.specs.Stands.{Stands, SameFrames, state_of}
use Rattle.engine_state.proofs.Uncalled.{all_of}
use Rattle.engine_state.proofs.CuttingReadings.{stands_in, later_in}

module _ (sizes : Sizes) (e e1 e2 : Engine) (book : Book) (w : World) (t : Token) (did : Did sizes (state_of e book) (state_of e1 book) w w (put_one t)) (now : Stands sizes e1 book) where
  -- the `\relax` has no room
  pub relax_cuts : (b : Broken) → Cuts sizes (state_of e1 book) e2 book w w (put_one frozen_relax) b → SameFrames e1 e2 → CutsIn sizes (state_of e book) e2 w w (put_one t ++ put_one frozen_relax) b
  relax_cuts b cuts same =
      later_in sizes (state_of e book) (state_of e1 book) e2 w w w (put_one t) (put_one frozen_relax) b did (stands_in sizes e1 e2 book w w (put_one frozen_relax) b cuts same now)

  pub both_put : Did sizes (state_of e1 book) (state_of e2 book) w w (put_one frozen_relax) → Stands sizes e2 book → Went sizes (state_of e book) e2 w w (put_one t ++ put_one frozen_relax) 0
  both_put relax st = record {
    book' = book;
    stands = all_of sizes e2 book st;
    did = did_join sizes (state_of e book) (state_of e1 book) (state_of e2 book) w w w (put_one t) (put_one frozen_relax) did relax;
    count = refl;
  }
