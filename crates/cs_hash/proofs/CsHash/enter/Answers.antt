use Rattle.std.proofs.Common.{◌≡◌, Option, Some, sym, ◌∙◌, ap, arith}
use Rattle.tex_defs.specs.declared.Full.{Full}
use Rattle.string_pool.specs.Pool.{Pool}
use Rattle.cs_hash.specs.Entry.{string_refusal, entry_refusal}
use Rattle.cs_hash.proofs.Entering.{enters_there, enters_refused, enters_fresh, hash_room, knows_more}
use Rattle.cs_hash.proofs.CsHash.enter.Goals as goal

pub returns-in-Entered-clause-enters : goal.returns-in-Entered-clause-enters
returns-in-Entered-clause-enters c = enters_there _ _ _ _ c.requires.knows c.in-Entered.ensures

pub returns-in-Err-clause-enters : goal.returns-in-Err-clause-enters
returns-in-Err-clause-enters c =
    let why : entry_refusal c.args.self.now c.args.pool.now c.args.name.now ≡ Some c.in-Err.full =
    ap (λ (other : Option Full). string_refusal c.args.pool.now c.args.name.now other) (sym c.refusal.ensures.value) ∙ c.in-Err.ensures.answer in
    enters_refused _ _ _ _ _ _ c.requires.knows c.in-Vacant.ensures c.in-Err.ensures.after why

pub add-requires-clause-room : goal.add-requires-clause-room
add-requires-clause-room c =
    hash_room c.args.self.now c.args.pool.now c.args.name.now c.refusal.ensures.fits (ap (λ (other : Option Full). string_refusal c.args.pool.now c.args.name.now other) (sym c.refusal.ensures.value) ∙ c.in-Ok.ensures.answer)

pub returns-clause-enters : goal.returns-clause-enters
returns-clause-enters c =
    enters_fresh _ _ _ _ _ _ _ _ c.requires.knows c.in-Vacant.ensures c.in-Ok.ensures.after
    (ap (λ (other : Option Full). string_refusal c.args.pool.now c.args.name.now other) (sym c.refusal.ensures.value) ∙ c.in-Ok.ensures.answer)
    c.add.ensures.number c.in-Ok.ensures.number c.add.ensures.string c.add.ensures.size

pub returns-clause-still_knows : goal.returns-clause-still_knows
returns-clause-still_knows c =
    let room = hash_room c.args.self.now c.args.pool.now c.args.name.now c.refusal.ensures.fits (ap (λ (other : Option Full). string_refusal c.args.pool.now c.args.name.now other) (sym c.refusal.ensures.value) ∙ c.in-Ok.ensures.answer) in
    knows_more _ _ _ _ _ _ _ c.requires.knows c.in-Vacant.ensures (omega (arith, room, c.refusal.ensures.slots, c.in-Vacant.ensures.at.within)) c.in-Ok.ensures.number c.add.ensures.string c.add.ensures.size c.add.ensures.index (ap (λ (p : Pool). p.kept) c.in-Ok.ensures.after)
