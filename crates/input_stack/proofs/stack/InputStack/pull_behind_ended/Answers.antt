use Rattle.std.proofs.Common.{List, subst, ◌+◌, ◌∙◌, sym, ap, arith, length, ℕ, Option, cond, None}
use Rattle.input_stack.specs.Puts.{Item, next_item}
use Rattle.input_stack.specs.CallViews.{is_opening, met, opened}
use Rattle.input_stack.specs.Pending.{Pending, Below, room}
use Rattle.input_stack.specs.Pulls.{IsInBuffer}
use Rattle.input_stack.specs.View.{pending}
use Rattle.input_stack.proofs.Pushed.{used_is, room_left}
use Rattle.input_stack.proofs.Tops.{true_is}
use Rattle.input_stack.proofs.Given.{pull_ok, pull_err, countable_stays, next_same, lasts_but, has_room}
use Rattle.input_stack.proofs.stack.InputStack.pull_behind_ended.Goals as goal

pub drop_finished-requires : goal.drop_finished-requires
drop_finished-requires c = c.requires.stands

pub is_opening-opening-requires : goal.is_opening-opening-requires
is_opening-opening-requires c = c.drop_finished.ensures.stands

pub opening_full-requires : goal.opening_full-requires
opening_full-requires c = c.drop_finished.ensures.stands.fits

pub pass_gaps-requires-clause-stands : goal.pass_gaps-requires-clause-stands
pass_gaps-requires-clause-stands c = c.drop_finished.ensures.stands

pub pass_gaps-requires-clause-unfinished : goal.pass_gaps-requires-clause-unfinished
pass_gaps-requires-clause-unfinished c = c.drop_finished.ensures.unfinished

pub pull_top-requires-clause-opening : goal.pull_top-requires-clause-opening
pull_top-requires-clause-opening c = c.is_opening-opening.ensures ∙ ap (λ (o : Option Item). is_opening (met o)) (sym c.pass_gaps.ensures.same.next)

pub pull_top-requires-clause-stands : goal.pull_top-requires-clause-stands
pull_top-requires-clause-stands c = c.pass_gaps.ensures.stands

pub pull_top-requires-clause-unfinished : goal.pull_top-requires-clause-unfinished
pull_top-requires-clause-unfinished c = c.pass_gaps.ensures.unfinished

pub pull_top-requires-clause-passed : goal.pull_top-requires-clause-passed
pull_top-requires-clause-passed c = c.pass_gaps.ensures.passed

pub pull_top-requires-clause-in_buffer : goal.pull_top-requires-clause-in_buffer
pull_top-requires-clause-in_buffer c = subst (λ (z : List Below). IsInBuffer z (length c.args.bytes.now)) (sym (c.pass_gaps.ensures.same.sources ∙ ap (λ (p : Pending). p.sources) c.drop_finished.ensures.after)) c.requires.in_buffer

pub returns-in-Some-clause-in_buffer : goal.returns-in-Some-clause-in_buffer
returns-in-Some-clause-in_buffer c = subst (λ (z : List Below). IsInBuffer z (length c.args.bytes.now)) (sym (ap (λ (p : Pending). p.sources) c.drop_finished.ensures.after)) c.requires.in_buffer

pub returns-in-Some-clause-size : goal.returns-in-Some-clause-size
returns-in-Some-clause-size c = c.drop_finished.ensures.size

pub returns-in-Some-clause-parameter_size : goal.returns-in-Some-clause-parameter_size
returns-in-Some-clause-parameter_size c = c.drop_finished.ensures.parameter_size

pub returns-clause-size : goal.returns-clause-size
returns-clause-size c = c.pull_top.ensures.sizes.size ∙ c.pass_gaps.ensures.sizes.size ∙ c.drop_finished.ensures.size

pub returns-clause-parameter_size : goal.returns-clause-parameter_size
returns-clause-parameter_size c = c.pull_top.ensures.sizes.parameter_size ∙ c.pass_gaps.ensures.sizes.parameter_size ∙ c.drop_finished.ensures.parameter_size

pub returns-in-Some-clause-stands : goal.returns-in-Some-clause-stands
returns-in-Some-clause-stands c = c.drop_finished.ensures.stands

pub returns-in-Some-clause-account : goal.returns-in-Some-clause-account
returns-in-Some-clause-account c = c.drop_finished.ensures.account

pub returns-in-Some-clause-kept : goal.returns-in-Some-clause-kept
returns-in-Some-clause-kept c = c.drop_finished.ensures.kept

pub returns-in-Some-clause-lasting : goal.returns-in-Some-clause-lasting
returns-in-Some-clause-lasting c =
    let l = c.drop_finished.ensures.lasting in
    record {
      size = l.size;
      fewer = λ h. omega (arith, l.fewer h);
      tokens = l.tokens;
    }

pub returns-clause-stands : goal.returns-clause-stands
returns-clause-stands c = c.pull_top.ensures.stands

pub returns-clause-account : goal.returns-clause-account
returns-clause-account c = λ h. omega (arith, c.drop_finished.ensures.account h, c.pass_gaps.ensures.account h, c.pull_top.ensures.shares.holders h, c.pull_top.ensures.held h)

pub returns-clause-kept : goal.returns-clause-kept
returns-clause-kept c =
    let e = c.drop_finished.ensures in
    let g = c.pass_gaps.ensures.kept in
    let x = c.pull_top.ensures.shares in
    record {
      tokens = λ h less. x.tokens h ∙ g.tokens h (omega (arith, less, e.account h)) ∙ e.kept.tokens h less;
      places = λ h less. x.places h ∙ g.places h (omega (arith, less, e.account h)) ∙ e.kept.places h less;
    }

pub returns-in-Some-clause-pulls : goal.returns-in-Some-clause-pulls
returns-in-Some-clause-pulls c =
    let e = c.drop_finished.ensures in
    let s = c.drop_finished.new.self in
    let p = pending c.args.lists.now c.args.self.now in
    let n = length s.levels.items + s.argument_levels in
    let opening = c.is_opening-opening.result in
    pull_err c.args.self.now.size n c.args.categories.now c.args.bytes.now p (pending c.drop_finished.new.lists s) c.in-Some.full opening e.after c.is_opening-opening.ensures (used_is c.drop_finished.new.lists s p e.stands.fits e.unfinished e.after) (ap (λ (z : ℕ). cond opening (room z n) None) (sym e.size) ∙ sym c.opening_full.ensures ∙ c.in-Some.is)

pub pull_top-requires-clause-room : goal.pull_top-requires-clause-room
pull_top-requires-clause-room c = λ t.
    let s = c.drop_finished.new.self in
    let n = length s.levels.items + s.argument_levels in
    let opening = c.is_opening-opening.result in
    let k = room_left s.size n (has_room opening (room s.size n) (sym c.opening_full.ensures ∙ c.in_default.is) (true_is opening t)) in
    omega (arith, k, c.pass_gaps.ensures.fewer, c.pass_gaps.ensures.open_fewer, c.pass_gaps.ensures.sizes.size)

pub pull_top-requires-clause-countable : goal.pull_top-requires-clause-countable
pull_top-requires-clause-countable c =
    let e = c.drop_finished.ensures in
    let g = c.pass_gaps.ensures in
    let p = pending c.args.lists.now c.args.self.now in
    let p1 = pending c.drop_finished.new.lists c.drop_finished.new.self in
    let p2 = pending c.pass_gaps.new.lists c.pass_gaps.new.self in
    countable_stays c.args.lists.now c.pass_gaps.new.lists (next_item p.puts) (next_item p2.puts) (λ h. omega (arith, e.lasting.fewer h, g.lasting.fewer h)) (next_same p p1 p2 e.after g.same) c.requires.countable

pub returns-clause-pulls : goal.returns-clause-pulls
returns-clause-pulls c =
    let e = c.drop_finished.ensures in
    let s = c.drop_finished.new.self in
    let p = pending c.args.lists.now c.args.self.now in
    let p1 = pending c.drop_finished.new.lists s in
    let p2 = pending c.pass_gaps.new.lists c.pass_gaps.new.self in
    let n = length s.levels.items + s.argument_levels in
    let opening = c.is_opening-opening.result in
    pull_ok c.args.self.now.size n c.args.categories.now c.args.bytes.now c.pull_top.new.bytes p p1 p2 (pending c.pull_top.new.lists c.pull_top.new.self) c.pull_top.result opening e.after c.pass_gaps.ensures.same c.is_opening-opening.ensures (used_is c.drop_finished.new.lists s p e.stands.fits e.unfinished e.after) (ap (λ (z : ℕ). cond opening (room z n) None) (sym e.size) ∙ sym c.opening_full.ensures ∙ c.in_default.is) c.pull_top.ensures.pulls

pub returns-clause-lasting : goal.returns-clause-lasting
returns-clause-lasting c =
    let e = c.drop_finished.ensures in
    let g = c.pass_gaps.ensures in
    let p = pending c.args.lists.now c.args.self.now in
    let p1 = pending c.drop_finished.new.lists c.drop_finished.new.self in
    let p2 = pending c.pass_gaps.new.lists c.pass_gaps.new.self in
    let same = next_same p p1 p2 e.after g.same in
    lasts_but c.args.lists.now c.pass_gaps.new.lists c.pull_top.new.lists (opened (next_item p2.puts)) (opened (next_item p.puts)) (λ h. ap (λ (o : Option Item). opened o h) same) (g.lasting.size ∙ e.lasting.size) (λ h. omega (arith, e.lasting.fewer h, g.lasting.fewer h)) (λ h some. g.lasting.tokens h some ∙ e.lasting.tokens h (omega (arith, some, g.lasting.fewer h))) c.pull_top.ensures.shares
