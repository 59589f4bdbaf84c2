use Rattle.std.proofs.Common.{◌≡◌, ◌<◌, ◌+◌, ◌∙◌, sym, ap, refl, arith, length, ℕ, List, [], map}
use Rattle.tex_defs.specs.declared.Token.{Token}
use Rattle.token_lists.specs.Ids.{id_of}
use Rattle.token_lists.specs.Table.{tokens_at}
use Rattle.input_stack.specs.Pending.{room, refusal}
use Rattle.input_stack.specs.Puts.{Text}
use Rattle.input_stack.specs.View.{innermost, pending, held}
use Rattle.input_stack.specs.Wholes.{whole}
use Rattle.input_stack.proofs.Kept.{holds_itself}
use Rattle.input_stack.proofs.Pushed.{no_tokens, some_tokens, empty_ok, empty_read, refused, used_is, room_left, put_tokens, put_ok, put_read, put_moves}
use Rattle.input_stack.proofs.stack.InputStack.push.Goals as goal

pub drop_finished-requires : goal.drop_finished-requires
drop_finished-requires c = c.requires.stands

pub full-requires : goal.full-requires
full-requires c = c.drop_finished.ensures.stands.fits

pub put-requires-clause-fits : goal.put-requires-clause-fits
put-requires-clause-fits c = c.drop_finished.ensures.stands.fits

pub returns-then-is_none-clause-err : goal.returns-then-is_none-clause-err
returns-then-is_none-clause-err c = tt

pub returns-then-is_none-clause-lasting : goal.returns-then-is_none-clause-lasting
returns-then-is_none-clause-lasting c = c.let_go.ensures.lasting

pub returns-then-is_none-clause-size : goal.returns-then-is_none-clause-size
returns-then-is_none-clause-size c = refl

pub returns-then-is_none-clause-parameter_size : goal.returns-then-is_none-clause-parameter_size
returns-then-is_none-clause-parameter_size c = refl

pub returns-in-Some-clause-ok : goal.returns-in-Some-clause-ok
returns-in-Some-clause-ok c = tt

pub returns-in-Some-clause-err : goal.returns-in-Some-clause-err
returns-in-Some-clause-err c = c.drop_finished.ensures.after

pub returns-in-Some-clause-lasting : goal.returns-in-Some-clause-lasting
returns-in-Some-clause-lasting c = c.drop_finished.ensures.lasting

pub returns-in-Some-clause-size : goal.returns-in-Some-clause-size
returns-in-Some-clause-size c = c.drop_finished.ensures.size

pub returns-in-Some-clause-parameter_size : goal.returns-in-Some-clause-parameter_size
returns-in-Some-clause-parameter_size c = c.drop_finished.ensures.parameter_size

pub returns-clause-err : goal.returns-clause-err
returns-clause-err c = tt

pub returns-clause-lasting : goal.returns-clause-lasting
returns-clause-lasting c = c.drop_finished.ensures.lasting

pub returns-clause-size : goal.returns-clause-size
returns-clause-size c = c.put.ensures.sizes.size ∙ c.drop_finished.ensures.size

pub returns-clause-parameter_size : goal.returns-clause-parameter_size
returns-clause-parameter_size c = c.put.ensures.sizes.parameter_size ∙ c.drop_finished.ensures.parameter_size

pub first-requires : goal.first-requires
first-requires c = omega (arith, c.requires.held (id_of c.args.list), holds_itself (id_of c.args.list))

pub let_go-requires : goal.let_go-requires
let_go-requires c = omega (arith, c.requires.held (id_of c.args.list), holds_itself (id_of c.args.list))

pub list_level-level-requires : goal.list_level-level-requires
list_level-level-requires c =
    let n = id_of c.args.list in
    omega (arith, c.requires.held n, holds_itself n, c.drop_finished.ensures.account n)

pub put-requires-clause-closed : goal.put-requires-clause-closed
put-requires-clause-closed c = c.list_level-level.ensures.closed

pub put-requires-clause-no_arguments : goal.put-requires-clause-no_arguments
put-requires-clause-no_arguments c = c.list_level-level.ensures.no_arguments

pub returns-then-is_none-clause-account : goal.returns-then-is_none-clause-account
returns-then-is_none-clause-account c = λ h. omega (arith, c.let_go.ensures.account h)

pub returns-then-is_none-clause-kept : goal.returns-then-is_none-clause-kept
returns-then-is_none-clause-kept c =
    let k = c.let_go.ensures.kept in
    record {
      tokens = λ h less. k.tokens h (omega (arith, less));
      places = λ h less. k.places h (omega (arith, less));
    }

pub returns-then-is_none-clause-refused : goal.returns-then-is_none-clause-refused
returns-then-is_none-clause-refused c =
    let t = c.args.lists.now in
    let n = id_of c.args.list in
    let none : tokens_at t n ≡ [] = no_tokens c.first.result c.is_none.result (tokens_at t n) c.is_none.ensures c.if-is_none.true c.first.ensures.ends in
    ap (λ (ts : List Token). refusal c.args.self.now.size (map Text ts) (pending t c.args.self.now)) none

pub returns-in-Some-clause-stands : goal.returns-in-Some-clause-stands
returns-in-Some-clause-stands c = c.drop_finished.ensures.stands

pub returns-in-Some-clause-account : goal.returns-in-Some-clause-account
returns-in-Some-clause-account c = c.drop_finished.ensures.account

pub returns-in-Some-clause-kept : goal.returns-in-Some-clause-kept
returns-in-Some-clause-kept c = c.drop_finished.ensures.kept

pub returns-in-Some-clause-tokens : goal.returns-in-Some-clause-tokens
returns-in-Some-clause-tokens c = λ some. put_tokens c.args.lists.now c.drop_finished.new.lists (id_of c.args.list) (held c.args.self.now) c.requires.held c.drop_finished.ensures.kept

pub returns-clause-tokens : goal.returns-clause-tokens
returns-clause-tokens c = λ some. put_tokens c.args.lists.now c.drop_finished.new.lists (id_of c.args.list) (held c.args.self.now) c.requires.held c.drop_finished.ensures.kept

pub returns-clause-kept : goal.returns-clause-kept
returns-clause-kept c =
    let k = c.drop_finished.ensures.kept in
    record {
      tokens = λ h less. k.tokens h (omega (arith, less));
      places = λ h less. k.places h (omega (arith, less));
    }

pub returns-then-is_none-clause-ok : goal.returns-then-is_none-clause-ok
returns-then-is_none-clause-ok c =
    let n = id_of c.args.list in
    let t = c.args.lists.now in
    empty_ok c.args.shared t c.let_go.new.lists n (innermost c.args.self.now) (tokens_at t n) c.requires.held c.let_go.ensures.account c.let_go.ensures.kept (no_tokens c.first.result c.is_none.result (tokens_at t n) c.is_none.ensures c.if-is_none.true c.first.ensures.ends)

pub returns-in-Some-clause-refused : goal.returns-in-Some-clause-refused
returns-in-Some-clause-refused c =
    let n = id_of c.args.list in
    let t = c.args.lists.now in
    let p = pending t c.args.self.now in
    let s = c.drop_finished.new.self in
    let e = c.drop_finished.ensures in
    let some : 0 < length (tokens_at t n) = some_tokens c.first.result c.is_none.result (tokens_at t n) c.is_none.ensures c.if-is_none.false c.first.ensures.ends in
    let u = used_is c.drop_finished.new.lists s p e.stands.fits e.unfinished e.after in
    let k = refused (length s.levels.items + s.argument_levels) c.args.self.now.size (tokens_at t n) p some u in
    let m = ap (λ (z : ℕ). room z (length s.levels.items + s.argument_levels)) e.size in
    (sym k ∙ sym m ∙ sym c.full.ensures ∙ c.in-Some.is, refl)

pub returns-clause-refused : goal.returns-clause-refused
returns-clause-refused c =
    let n = id_of c.args.list in
    let t = c.args.lists.now in
    let p = pending t c.args.self.now in
    let s = c.drop_finished.new.self in
    let e = c.drop_finished.ensures in
    let some : 0 < length (tokens_at t n) = some_tokens c.first.result c.is_none.result (tokens_at t n) c.is_none.ensures c.if-is_none.false c.first.ensures.ends in
    let u = used_is c.drop_finished.new.lists s p e.stands.fits e.unfinished e.after in
    let k = refused (length s.levels.items + s.argument_levels) c.args.self.now.size (tokens_at t n) p some u in
    let m = ap (λ (z : ℕ). room z (length s.levels.items + s.argument_levels)) e.size in
    sym k ∙ sym m ∙ sym c.full.ensures ∙ c.in_default.is

pub put-requires-clause-room : goal.put-requires-clause-room
put-requires-clause-room c =
    let s = c.drop_finished.new.self in
    room_left s.size (length s.levels.items + s.argument_levels) (sym c.full.ensures ∙ c.in_default.is)

pub returns-clause-stands : goal.returns-clause-stands
returns-clause-stands c =
    let s = c.drop_finished.new.self in
    let e = c.drop_finished.ensures in
    let l = c.list_level-level.ensures in
    record {
      read = put_read c.args.lists.now c.drop_finished.new.lists (whole [] c.list_level-level.result) (innermost c.put.new.self) (innermost s) (held c.args.self.now) c.put.ensures.list l.stands e.stands.read e.unfinished (λ h. omega (arith, c.requires.held h, l.held h)) e.account;
      fits = c.put.ensures.fits;
    }

pub returns-clause-ok : goal.returns-clause-ok
returns-clause-ok c =
    let n = id_of c.args.list in
    let t = c.args.lists.now in
    let s = c.drop_finished.new.self in
    let e = c.drop_finished.ensures in
    let some : 0 < length (tokens_at t n) = some_tokens c.first.result c.is_none.result (tokens_at t n) c.is_none.ensures c.if-is_none.false c.first.ensures.ends in
    put_ok c.args.shared c.drop_finished.new.lists (whole [] c.list_level-level.result) n (tokens_at c.drop_finished.new.lists n) (tokens_at t n) (innermost c.put.new.self) (innermost s) (pending t c.args.self.now) c.put.ensures.list (c.list_level-level.ensures.put (innermost s)) (put_tokens t c.drop_finished.new.lists n (held c.args.self.now) c.requires.held e.kept) some e.after

pub returns-clause-account : goal.returns-clause-account
returns-clause-account c = λ h.
    omega (arith, put_moves c.args.lists.now c.drop_finished.new.lists (whole [] c.list_level-level.result) (innermost c.put.new.self) (innermost c.drop_finished.new.self) (held c.args.self.now) c.put.ensures.list c.drop_finished.ensures.account h, c.list_level-level.ensures.held h)

pub returns-then-is_none-clause-tokens : goal.returns-then-is_none-clause-tokens
returns-then-is_none-clause-tokens c = λ some.
    let t = c.args.lists.now in
    let n = id_of c.args.list in
    let none = no_tokens c.first.result c.is_none.result (tokens_at t n) c.is_none.ensures c.if-is_none.true c.first.ensures.ends in
    absurd (omega (arith, some, ap length none))

pub returns-then-is_none-clause-stands : goal.returns-then-is_none-clause-stands
returns-then-is_none-clause-stands c = record {
  read = empty_read c.args.lists.now c.let_go.new.lists (id_of c.args.list) (innermost c.args.self.now) c.requires.held c.let_go.ensures.account c.let_go.ensures.kept c.requires.stands.read;
  fits = c.requires.stands.fits;
}
