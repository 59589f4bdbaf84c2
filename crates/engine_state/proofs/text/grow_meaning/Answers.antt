use Rattle.std.proofs.Common.{ap, refl}
use Rattle.token_show.specs.Views.{names_style}
use Rattle.input_state.specs.Calls.{text_of}
use Rattle.engine_state.proofs.Joining.{same_err}
use Rattle.engine_state.proofs.MeaningTexts.{head_not, macro_grown, macro_not, macro_some, bare_grown, bare_some, is_macro, no_macro}
use Rattle.engine_state.proofs.MadeTexts.{or_then, or_else}
use Rattle.engine_state.proofs.text.grow_meaning.Goals as goal

pub returns-in_err-some-clause-err : goal.returns-in_err-some-clause-err
returns-in_err-some-clause-err c = let i = c.in_err-some in
    same_err c.from_residual.result i.field-0.0 _ c.from_residual.ensures.1 (head_not (names_style c.args.names) c.args.input.now c.grow_piece.new.input c.args.x c.given_meaning-meaning.result c.given_meaning-meaning.ensures _ c.of_meaning_head.ensures i.field-0.0 i.ensures.err)

pub returns-in_err-grow_list-in-Macro-clause-err : goal.returns-in_err-grow_list-in-Macro-clause-err
returns-in_err-grow_list-in-Macro-clause-err c = let i = c.in_err-grow_list-in-Macro in
    same_err c.from_residual-in_err-grow_list-in-Macro.result i.field-0.0 _ c.from_residual-in_err-grow_list-in-Macro.ensures.1 (macro_not (names_style c.args.names) c.args.input.now c.grow_piece.new.input c.args.x c.given_meaning-meaning.result c.given_meaning-meaning.ensures _ c.of_meaning_head.ensures c.grow_list.new.input c.in_ok-some.ensures.ok (is_macro c.given_meaning-meaning.result c.in-Macro.long c.in-Macro.outer c.in-Macro.list c.in-Macro.is) (text_of c.grow_piece.new.input.lists c.grow_piece.new.input.groups.now.meanings c.name_of.result) (ap (text_of c.grow_piece.new.input.lists c.grow_piece.new.input.groups.now.meanings) c.name_of.ensures) i.field-0.0 i.ensures.err)

pub returns-then-branch-clause-ok : goal.returns-then-branch-clause-ok
returns-then-branch-clause-ok c = macro_grown (names_style c.args.names) c.args.input.now c.grow_piece.new.input c.args.x c.given_meaning-meaning.result c.given_meaning-meaning.ensures _ c.of_meaning_head.ensures c.grow_list.new.input c.in_ok-some.ensures.ok (is_macro c.given_meaning-meaning.result c.in-Macro.long c.in-Macro.outer c.in-Macro.list c.in-Macro.is) (text_of c.grow_piece.new.input.lists c.grow_piece.new.input.groups.now.meanings c.name_of.result) (ap (text_of c.grow_piece.new.input.lists c.grow_piece.new.input.groups.now.meanings) c.name_of.ensures) c.in_ok-grow_list-in-Macro.ensures.ok

pub returns-else-branch-clause-ok : goal.returns-else-branch-clause-ok
returns-else-branch-clause-ok c = macro_grown (names_style c.args.names) c.args.input.now c.grow_piece.new.input c.args.x c.given_meaning-meaning.result c.given_meaning-meaning.ensures _ c.of_meaning_head.ensures c.grow_list.new.input c.in_ok-some.ensures.ok (is_macro c.given_meaning-meaning.result c.in-Macro.long c.in-Macro.outer c.in-Macro.list c.in-Macro.is) (text_of c.grow_piece.new.input.lists c.grow_piece.new.input.groups.now.meanings c.name_of.result) (ap (text_of c.grow_piece.new.input.lists c.grow_piece.new.input.groups.now.meanings) c.name_of.ensures) c.in_ok-grow_list-in-Macro.ensures.ok

pub returns-then-branch-clause-some : goal.returns-then-branch-clause-some
returns-then-branch-clause-some c = let more = c.in_ok-grow_list-in-Macro.field-0 in
    macro_some (names_style c.args.names) c.args.input.now c.grow_piece.new.input c.args.x c.given_meaning-meaning.result c.given_meaning-meaning.ensures _ c.of_meaning_head.ensures c.grow_list.new.input c.in_ok-some.ensures.ok (is_macro c.given_meaning-meaning.result c.in-Macro.long c.in-Macro.outer c.in-Macro.list c.in-Macro.is) (text_of c.grow_piece.new.input.lists c.grow_piece.new.input.groups.now.meanings c.name_of.result) (ap (text_of c.grow_piece.new.input.lists c.grow_piece.new.input.groups.now.meanings) c.name_of.ensures) c.in_ok-some.some more more (or_then more c.in_ok-some.some more c.if-branch.true refl) c.in_ok-some.ensures.some c.in_ok-grow_list-in-Macro.ensures.some

pub returns-else-branch-clause-some : goal.returns-else-branch-clause-some
returns-else-branch-clause-some c = let more = c.in_ok-grow_list-in-Macro.field-0 in
    macro_some (names_style c.args.names) c.args.input.now c.grow_piece.new.input c.args.x c.given_meaning-meaning.result c.given_meaning-meaning.ensures _ c.of_meaning_head.ensures c.grow_list.new.input c.in_ok-some.ensures.ok (is_macro c.given_meaning-meaning.result c.in-Macro.long c.in-Macro.outer c.in-Macro.list c.in-Macro.is) (text_of c.grow_piece.new.input.lists c.grow_piece.new.input.groups.now.meanings c.name_of.result) (ap (text_of c.grow_piece.new.input.lists c.grow_piece.new.input.groups.now.meanings) c.name_of.ensures) c.in_ok-some.some more c.in_ok-some.some (or_else more c.in_ok-some.some c.in_ok-some.some c.if-branch.false refl) c.in_ok-some.ensures.some c.in_ok-grow_list-in-Macro.ensures.some

pub returns-in_default-clause-ok : goal.returns-in_default-clause-ok
returns-in_default-clause-ok c = bare_grown (names_style c.args.names) c.args.input.now c.grow_piece.new.input c.args.x c.given_meaning-meaning.result c.given_meaning-meaning.ensures _ c.of_meaning_head.ensures (no_macro c.given_meaning-meaning.result c.in_default.not-Macro) c.in_ok-some.ensures.ok

pub returns-in_default-clause-some : goal.returns-in_default-clause-some
returns-in_default-clause-some c = bare_some (names_style c.args.names) c.args.input.now c.grow_piece.new.input c.args.x c.given_meaning-meaning.result c.given_meaning-meaning.ensures _ c.of_meaning_head.ensures (no_macro c.given_meaning-meaning.result c.in_default.not-Macro) c.in_ok-some.some c.in_ok-some.ensures.some
