use Rattle.std.proofs.Common.{◌∙◌, ap, arith}
use Rattle.tex_defs.specs.declared.Sizes.{Sizes}
use Rattle.input_state.specs.Stored.{Stored}
use Rattle.input_state.proofs.Refusing.{file_fits, file_full}
use Rattle.input_state.proofs.Rooms.{files_open}
use Rattle.input_state.proofs.state.Input.file_room.Goals as goal

pub returns-then-used-sizes : goal.returns-then-used-sizes
returns-then-used-sizes c =
    let i = c.self.inside in
    let s = c.args.self.now in
    let used = c.count-used.ensures.is ∙ files_open i.held i.buffer.items i.buffer.items i.files c.self.invariant s c.self.view_is in
    let size = ap (λ (z : Sizes). z.text_input_levels) (c.sizes-sizes.ensures ∙ ap (λ (v : Stored). v.sizes) c.self.view_is) in
    file_fits s.sizes s.pending (omega (arith, used, size, c.if-used-sizes.true))

pub returns : goal.returns
returns c =
    let i = c.self.inside in
    let s = c.args.self.now in
    let used = c.count-used.ensures.is ∙ files_open i.held i.buffer.items i.buffer.items i.files c.self.invariant s c.self.view_is in
    let size = ap (λ (z : Sizes). z.text_input_levels) (c.sizes-sizes.ensures ∙ ap (λ (v : Stored). v.sizes) c.self.view_is) in
    file_full s.sizes s.pending c.count-used.result c.sizes-sizes.result.now.text_input_levels used size c.if-used-sizes.false
