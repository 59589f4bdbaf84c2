use Rattle.std.proofs.Common.{◌≡◌, sym, ap, ◌∙◌, Option, List, false}
use Rattle.token_lists.specs.Ids.{id_of}
use Rattle.token_lists.specs.Table.{Entry, tokens_at}
use Rattle.macro_call.specs.declared.scan.ArgScan.{ArgScan}
use Rattle.plain_tokens.specs.Arguments.{mode_of}
use Rattle.macro_call.specs.PlainScans.{first_scan}
use Rattle.macro_call.specs.Scans.{scan_of}
use Rattle.macro_call.proofs.Begun.{begun_start, begun_place, told_at, new_text, new_gathers}
use Rattle.macro_call.proofs.scan.ArgScan.new.Goals as goal
use Rattle.macro_call.proofs.scan.ArgScan.new.Goals.{After-none, in-Some+in-Ok, in_default, then-long, else-long}

the_mode : (c : After-none) → c.if-long.result ≡ mode_of c.args.long
the_mode c = elim c.if-long.branch [ then-long w ↦ w.result-is ∙ sym (ap mode_of w.if-long.true) | else-long w ↦ w.result-is ∙ sym (ap mode_of w.if-long.false) ]

abbrev made : After-none → ArgScan
made c = record { cursor = c.match-behind_place.cursor; mode = c.if-long.result; braced = false; present = c.match-behind_place.present; args = c.none.result }

told : (c : After-none) → scan_of c.match-behind_place.lists (made c) ≡ first_scan (tokens_at c.args.lists.now (id_of c.args.list.now)) (mode_of c.args.long)
told c =
    let macro = id_of c.args.list.now in
    let first = c.at_first-cursor.result in
    elim c.match-behind_place.branch [
      | in-Some+in-Ok w ↦
          let s = w.in-Some.ensures macro c.at_first-cursor.ensures.on in
          told_at _ _ _ _ _ _ c.if-long.result c.none.result (w.lists-is ∙ w.abandon.ensures.free w.replace-none.ensures.value) w.cursor-is (w.present-is ∙ w.replace-none.ensures.after)
          ∙ begun_place c.args.lists.now macro first c.if-long.result c.none.result c.none.ensures.empty c.at_first-cursor.ensures.first
          w.begin.new.self w.in-Some.next s.0.0 w.in-Ok.build w.new.result s.0.1 s.2 w.in-Ok.ensures.ok w.in-Ok.ensures.within w.new.ensures.building w.new.ensures.fresh
          ∙ ap (first_scan (tokens_at c.args.lists.now macro)) (the_mode c)
      | in_default w ↦
          told_at _ _ _ _ _ _ c.if-long.result c.none.result w.lists-is w.cursor-is w.present-is
          ∙ begun_start c.args.lists.now macro first c.if-long.result c.none.result c.none.ensures.empty c.at_first-cursor.ensures.first (w.in_default.ensures macro c.at_first-cursor.ensures.on)
          ∙ ap (first_scan (tokens_at c.args.lists.now macro)) (the_mode c)
    ]

pub returns-clause-plain : goal.returns-clause-plain
returns-clause-plain c = told c

pub returns-clause-stands : goal.returns-clause-stands
returns-clause-stands c =
    let macro = id_of c.args.list.now in
    new_gathers c.args.lists.now c.match-behind_place.lists macro (made c) (mode_of c.args.long)
    (elim c.match-behind_place.branch [
      | in-Some+in-Ok w ↦ ap (λ (t : List (Option Entry)). tokens_at t macro) (w.lists-is ∙ w.abandon.ensures.free w.replace-none.ensures.value)
          ∙ new_text c.args.lists.now w.begin.new.self macro w.in-Ok.build c.at_first-cursor.ensures.on.held w.in-Ok.ensures.fresh w.in-Ok.ensures.ok
      | in_default w ↦ ap (λ (t : List (Option Entry)). tokens_at t macro) w.lists-is
    ]) (told c)
