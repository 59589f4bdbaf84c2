use Rattle.std.proofs.Common.{arith, ◌≡◌, refl, ap, ◌∙◌, ◌∷◌, length}
use Rattle.input_stack.specs.WholeLevel.{WholeLevel}
use Rattle.input_stack.specs.View.{innermost}
use Rattle.input_stack.specs.Wholes.{whole, own, level_count}
use Rattle.input_stack.proofs.Wholes.{under, top_whole, top_changed, changed_counts}
use Rattle.input_stack.proofs.Lines.{line_begun, line_held, line_read, fits_at}
use Rattle.input_stack.proofs.stack.InputStack.begin_line.Goals as goal

pub returns-clause-after : goal.returns-clause-after
returns-clause-after c = λ table.
    let s = c.args.self.now in
    let l = c.index_mut.result.now in
    let n = c.len-count.result in
    let len : n ≡ length s.levels.items = omega (arith, c.len-count.ensures, s.levels.ok) in
    let args = own s.arguments.items l in
    let ls = under s n l len c.if-count-eq0.false c.index_mut.ensures.value in
    let e = top_whole s n l len c.if-count-eq0.false c.index_mut.ensures.value in
    let m = c.begin_at.new.level in
    let same : level_count m ≡ level_count l = c.begin_at.ensures.count in
    let f = top_changed s n l len c.if-count-eq0.false c.index_mut.ensures.value m same in
    let g = f ∙ ap (λ (x : WholeLevel). x ∷ ls) (c.begin_at.ensures.at args) in
    line_begun table c.args.line (whole args l) (innermost s) _ ls e g c.requires

pub returns-clause-stands : goal.returns-clause-stands
returns-clause-stands c = λ table stands.
    let s = c.args.self.now in
    let l = c.index_mut.result.now in
    let n = c.len-count.result in
    let len : n ≡ length s.levels.items = omega (arith, c.len-count.ensures, s.levels.ok) in
    let args = own s.arguments.items l in
    let ls = under s n l len c.if-count-eq0.false c.index_mut.ensures.value in
    let e = top_whole s n l len c.if-count-eq0.false c.index_mut.ensures.value in
    let m = c.begin_at.new.level in
    let same : level_count m ≡ level_count l = c.begin_at.ensures.count in
    let f = top_changed s n l len c.if-count-eq0.false c.index_mut.ensures.value m same in
    let g = f ∙ ap (λ (x : WholeLevel). x ∷ ls) (c.begin_at.ensures.at args) in
    record {
      read = line_read table c.args.line (whole args l) (innermost s) _ ls e g stands.read;
      fits = fits_at s _ c.args.line (whole args l) ls e g refl (changed_counts s n l len c.if-count-eq0.false c.index_mut.ensures.value m same stands.fits) refl (record { size = refl; parameter_size = refl; capacity = refl; parameter_capacity = refl }) stands.fits;
    }

pub returns-clause-held : goal.returns-clause-held
returns-clause-held c = λ h.
    let s = c.args.self.now in
    let l = c.index_mut.result.now in
    let n = c.len-count.result in
    let len : n ≡ length s.levels.items = omega (arith, c.len-count.ensures, s.levels.ok) in
    let args = own s.arguments.items l in
    let ls = under s n l len c.if-count-eq0.false c.index_mut.ensures.value in
    let e = top_whole s n l len c.if-count-eq0.false c.index_mut.ensures.value in
    let m = c.begin_at.new.level in
    let same : level_count m ≡ level_count l = c.begin_at.ensures.count in
    let f = top_changed s n l len c.if-count-eq0.false c.index_mut.ensures.value m same in
    let g = f ∙ ap (λ (x : WholeLevel). x ∷ ls) (c.begin_at.ensures.at args) in
    line_held c.args.line (whole args l) (innermost s) _ ls h e g
