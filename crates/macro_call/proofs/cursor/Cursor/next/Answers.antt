use Rattle.std.proofs.Common.{◌≡◌, Some, refl, sym, ◌∙◌}
use Rattle.std.specs.Prelude.{slice_get}
use Rattle.token_lists.specs.Table.{places_at, tokens_at}
use Rattle.macro_call.proofs.Cursors.{drop_get}
use Rattle.macro_call.proofs.cursor.Cursor.next.Goals as goal

pub returns : goal.returns
returns c = λ id on.
    let there : slice_get (places_at c.args.lists.now id) c.args.self.index ≡ Some c.in_ok-place.place = sym on.place ∙ c.in_ok-place.was in (
      drop_get (tokens_at c.args.lists.now id) c.args.self.index c.token.result (c.token.ensures id c.args.self.index there),
      record { held = on.held; place = c.next.ensures.place id c.args.self.index there; ends = c.next.ensures.ends id c.args.self.index there },
      refl,
    )
