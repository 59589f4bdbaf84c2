use Rattle.std.proofs.Common.{◌≡◌, List, Option, sym, subst, ◌∙◌}
use Rattle.token_lists.specs.Table.{Entry}
use Rattle.token_lists.specs.Ids.{id_of}
use Rattle.macro_call.specs.declared.present.Present.{Present}
use Rattle.macro_call.specs.declared.ask.CallAsk.TheVariants as ask
use Rattle.macro_call.specs.Scans.{Enters}
use Rattle.macro_call.proofs.Entered.{entered}
use Rattle.macro_call.proofs.scan.ArgScan.enter.Goals as goal

pub returns-clause-enters : goal.returns-clause-enters
returns-clause-enters c =
    let old = c.args.self.now in
    let macro = id_of c.args.list.now in
    let same : c.abandon.new.lists ≡ c.begin.new.self = c.abandon.ensures.free (c.replace-none.ensures.value ∙ c.requires.none) in
    subst (λ (t : List (Option Entry)). Enters c.args.lists.now t macro old (record { cursor = c.in-Some.next; mode = old.mode; braced = old.braced; present = c.replace-none.new.dest; args = old.args }) ask.More) (sym same)
    (subst (λ (o : Option Present). Enters c.args.lists.now c.begin.new.self macro old (record { cursor = c.in-Some.next; mode = old.mode; braced = old.braced; present = o; args = old.args }) ask.More) (sym c.replace-none.ensures.after)
    (entered c.args.lists.now c.begin.new.self macro old c.in-Some.next c.in-Ok.build c.new.result c.requires c.in-Some.ensures
    c.in-Ok.ensures.fresh c.in-Ok.ensures.building c.in-Ok.ensures.ok c.in-Ok.ensures.within c.in-Ok.ensures.account c.new.ensures.building c.new.ensures.fresh c.new.ensures.next))
