use Rattle.std.proofs.Common.{ap, ◌∙◌, sym, length, arith}
use Rattle.eqtb_save.specs.Table.{Table}
use Rattle.eqtb_save.proofs.Setting.{set_fits, set_refused, present_fits}
use Rattle.eqtb_save.proofs.Eqtb.refusal.Goals as goal
use Rattle.eqtb_save.proofs.Eqtb.refusal.Goals.{then-is_present-via-then-is_present, then-is_present-via-else-is_present+then-used-self}

pub is_present-requires : goal.is_present-requires
is_present-requires c = omega (arith, c.place.ensures.within, ap (λ (t : Table). length t.groups.levels) c.self.view_is)

pub returns-then-is_present : goal.returns-then-is_present
returns-then-is_present c =
    let view = ap (λ (t : Table). t.groups) c.self.view_is in
    let sizes = ap (λ (t : Table). t.sizes) c.self.view_is in
    elim c.then-is_present.branch [
      | then-is_present-via-then-is_present w ↦ sym (present_fits c.self.inside.groups c.args.self.now.groups view c.args.loc c.place.result c.place.ensures.number c.args.self.now.sizes (c.self.invariant.save_size ∙ ap (λ (t : Table). t.sizes.save_size) c.self.view_is) (sym c.is_present.ensures ∙ w.if-is_present.true))
      | then-is_present-via-else-is_present+then-used-self w ↦ sym (set_fits c.self.inside.groups c.args.self.now.groups view c.args.loc c.place.result c.place.ensures.number c.args.self.now.sizes (c.self.invariant.save_size ∙ ap (λ (t : Table). t.sizes.save_size) c.self.view_is) (λ e. omega (arith, w.used.ensures.used, w.if-used-self.true, c.self.invariant.save_size)))
    ]

pub returns : goal.returns
returns c = sym (set_refused c.self.inside.groups c.args.self.now.groups (ap (λ (t : Table). t.groups) c.self.view_is) c.args.loc c.place.result c.place.ensures.number c.args.self.now.sizes (c.self.invariant.save_size ∙ ap (λ (t : Table). t.sizes.save_size) c.self.view_is) c.refusal.result
    (record { entry = sym c.is_present.ensures ∙ c.if-is_present.false; room = c.refusal.ensures }))
