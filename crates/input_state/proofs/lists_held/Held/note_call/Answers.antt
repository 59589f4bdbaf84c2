use Rattle.std.proofs.Common.{◌≡◌, ◌∙◌, sym, subst}
use Rattle.input_state.specs.declared.gathering.Gathering.TheVariants as call
use Rattle.input_state.specs.HeldViews.{IsCall}
use Rattle.input_state.proofs.Recalling.{recalls_sound}
use Rattle.input_state.proofs.Called.{stands_recalls}
use Rattle.input_state.proofs.lists_held.Held.note_call.Goals as goal

pub invariant_of-self : goal.invariant_of-self
invariant_of-self c =
    let i = c.self.inside in
    let name = c.into_scan-name.result.0 in
    let scan = c.into_scan-name.result.1 in
    let was : i.call ≡ call.Gathers name scan = sym c.replace.ensures.value ∙ c.into_scan-name.ensures in
    recalls_sound i.lists i.lists i.stack i.making i.builds.items i.table i.call (call.Gathers name scan) (call.Gathers name c.noted.new.self) c.replace-2.new.dest i.sizes _ c.self.invariant was c.replace-2.ensures.after (stands_recalls i.lists i.table name scan c.noted.new.self (subst (IsCall i.lists i.table) was c.self.invariant.call) c.noted.ensures.sound c.noted.ensures.same)
