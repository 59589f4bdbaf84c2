use Rattle.std.proofs.Common.{◌≡◌, ◌∙◌, None, Some, refl, sym, arith}
use Rattle.std.proofs.lemmas.Option.{none-some}
use Rattle.input_state.proofs.Spares.{ended_files}
use Rattle.input_state.proofs.file.Files.end_file.Goals as goal

pub invariant_of-self-in-Some-innermost : goal.invariant_of-self-in-Some-innermost
invariant_of-self-in-Some-innermost c =
    let i = c.self.inside in
    let is : c.pop.result ≡ Some c.in-Some-innermost.file = sym c.replace.ensures.after ∙ c.in-Some-innermost.is in
    rw (c.replace.ensures.after, c.push_reserved.ensures.items)
    (ended_files i.innermost c.in-Some.file i.beneath.items i.opened i.spare.items i.lines_beneath i.buffer_size i.levels _ _ (sym c.replace.ensures.value ∙ c.in-Some.is) c.self.invariant c.clear.new.self c.clear.ensures _ _ c.pop.ensures.capacity c.push_reserved.ensures.capacity c.pop.result c.pop.new.self.items c.pop.ensures.items
    (λ none. absurd (none-some c.in-Some-innermost.file (sym none ∙ is))) _ (rw is refl))

pub invariant_of-self-in-None : goal.invariant_of-self-in-None
invariant_of-self-in-None c =
    let i = c.self.inside in
    let is : c.pop.result ≡ None = sym c.replace.ensures.after ∙ c.in-None.is in
    let empty = rw is at c.pop.ensures.cases in
    rw (c.replace.ensures.after, c.push_reserved.ensures.items)
    (ended_files i.innermost c.in-Some.file i.beneath.items i.opened i.spare.items i.lines_beneath i.buffer_size i.levels _ _ (sym c.replace.ensures.value ∙ c.in-Some.is) c.self.invariant c.clear.new.self c.clear.ensures _ _ c.pop.ensures.capacity c.push_reserved.ensures.capacity c.pop.result c.pop.new.self.items c.pop.ensures.items
    (λ none. omega (arith, empty.1, c.pop.new.self.ok.0)) _ (rw is refl))
