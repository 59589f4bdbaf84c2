use Rattle.std.proofs.Common.{◌≡◌, ap, refl}
use Rattle.std.specs.Prelude.{◌||◌}
use Rattle.plain_tokens.specs.Printed.{list_from, places_after, last_after}
use Rattle.token_show.specs.Views.{names_style}
use Rattle.input_state.specs.Stored.{Stored}
use Rattle.input_state.specs.Walks.{to_come}
use Rattle.engine_state.proofs.Joining.{same_err}
use Rattle.engine_state.proofs.MadeTexts.{along_more, along_not, along_flag, list_on, or_then, or_else}
use Rattle.engine_state.proofs.text.grow_list.Goals as goal
use Rattle.engine_state.proofs.text.grow_list.Goals.{then-branch, else-branch}

pub returns-in_err-some-clause-err : goal.returns-in_err-some-clause-err
returns-in_err-some-clause-err c = let l = c.loop-token in let i = c.in_err-some in let s = c.in-Some in let style = names_style c.args.names in
    same_err c.from_residual.result i.field-0.0 _ c.from_residual.ensures.1
    (along_not c.args.input.now l.input c.grow_piece.new.input _ _ c.of_token-text.result (list_from style (places_after l.places s.token) (last_after l.last s.token) (to_come l.input s.next)) l.some l.invariant.along
    (list_on style l.places l.last _ _ s.token (to_come l.input l.walk) (to_come l.input s.next) (to_come l.input s.next) c.of_token-text.result s.ensures refl c.of_token-text.ensures.text refl refl) i.field-0.0 i.ensures.err)

pub loop-token-preserved : goal.loop-token-preserved
loop-token-preserved c = let l = c.loop-token in let i = c.in_ok-some in let s = c.in-Some in let style = names_style c.args.names in
    let stays : to_come c.grow_piece.new.input s.next ≡ to_come l.input s.next = c.walks_stay.ensures l.input c.grow_piece.new.input i.ensures.ok.keeps (ap (λ (x : Stored). x.groups.now.meanings) i.ensures.ok.is) s.next in
    let flag : c.if-branch.some ≡ (i.some || l.some) = elim c.if-branch.branch [
      | then-branch w ↦ or_then i.some l.some c.if-branch.some w.if-branch.true w.some-is
      | else-branch w ↦ or_else i.some l.some c.if-branch.some w.if-branch.false w.some-is
    ] in
    record {
      few = c.places_after-places.ensures.few;
      along = along_flag c.args.input.now c.grow_piece.new.input _ _ _ _ flag
          (along_more c.args.input.now l.input c.grow_piece.new.input _ _ c.of_token-text.result _ l.some l.invariant.along
          (list_on style l.places l.last c.places_after-places.result c.last_after-last.result s.token (to_come l.input l.walk) (to_come l.input s.next) (to_come c.grow_piece.new.input s.next) c.of_token-text.result s.ensures stays c.of_token-text.ensures.text c.places_after-places.ensures.after c.last_after-last.ensures)
          i.some i.ensures.ok i.ensures.some);
    }
