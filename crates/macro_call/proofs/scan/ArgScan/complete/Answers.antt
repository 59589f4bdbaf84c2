use Rattle.std.proofs.Common.{◌≡◌, ◌+◌, ◌<◌, ◌++◌, ◌∷◌, [], List, length, Option, Some, sym, ap, subst, ◌∙◌}
use Rattle.std.specs.Prelude.{IfSome}
use Rattle.token_lists.specs.declared.ListRef.{ListRef}
use Rattle.token_lists.specs.Table.{Entry, tokens_at, holders_at}
use Rattle.token_lists.specs.Accounts.{holds}
use Rattle.token_lists.specs.Ids.{id_of}
use Rattle.macro_call.specs.declared.present.Present.{Present}
use Rattle.macro_args.specs.Args.{args_in, cell_tokens}
use Rattle.macro_call.specs.Scans.{Completes}
use Rattle.macro_call.specs.Tables.{IsOnly}
use Rattle.macro_call.proofs.Completed.{completed}
use Rattle.macro_call.proofs.scan.ArgScan.complete.Goals as goal

listed : (table : List (Option Entry)) (cell : Option ListRef) (r : ListRef) → cell ≡ Some r → IfSome cell (λ r. 0 < length (tokens_at table (id_of r))) → 0 < length (tokens_at table (id_of r))
listed table cell r is some = subst (λ (o : Option ListRef). IfSome o (λ r. 0 < length (tokens_at table (id_of r)))) is some

pub returns-clause-completes : goal.returns-clause-completes
returns-clause-completes c =
    let old = c.args.self.now in
    let macro = id_of c.args.list.now in
    let present : old.present ≡ Some c.in-Some.present = sym c.replace.ensures.value ∙ c.in-Some.is in
    let same : c.keep.new.lists ≡ c.finish-cell.new.lists = c.keep.ensures.unchanged in
    subst (λ (o : Option Present). Completes c.args.lists.now c.keep.new.lists macro old (record { cursor = c.behind_delimiter-self.result; mode = old.mode; braced = old.braced; present = o; args = c.keep.new.self })) (sym c.replace.ensures.after)
    (completed c.args.lists.now c.keep.new.lists macro old c.in-Some.present present c.requires
    (subst (λ (t : List (Option Entry)). IsOnly c.args.lists.now t c.in-Some.present.build.id) (sym same) c.finish-cell.ensures.others)
    c.finish-cell.result c.keep.new.self c.behind_delimiter-self.result
    (ap (λ (t : List (Option Entry)). cell_tokens t c.finish-cell.result) same ∙ c.finish-cell.ensures.tokens)
    (λ h. ap (λ (t : List (Option Entry)). holders_at t h + holds c.in-Some.present.build.id h) same ∙ c.finish-cell.ensures.account h)
    c.keep.ensures.filled c.keep.ensures.account c.keep.ensures.lists
    (λ r is. subst (λ (t : List (Option Entry)). 0 < length (tokens_at t (id_of r))) (sym same) (listed c.finish-cell.new.lists c.finish-cell.result r is c.finish-cell.ensures.listed))
    (c.keep.ensures.tokens ∙ ap (λ (t : List (Option Entry)). args_in t old.args ++ cell_tokens t c.finish-cell.result ∷ []) (sym same))
    c.behind_delimiter-self.ensures.on c.behind_delimiter-self.ensures.ends c.behind_delimiter-self.ensures.same)
