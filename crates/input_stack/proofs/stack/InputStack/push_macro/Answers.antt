use Rattle.std.proofs.Common.{◌≡◌, ◌+◌, ◌∙◌, sym, ap, refl, arith, length, take, ℕ, None}
use Rattle.token_lists.specs.Ids.{id_of}
use Rattle.token_lists.specs.Table.{tokens_at}
use Rattle.input_stack.specs.WholeLevel as level
use Rattle.token_lists.specs.Accounts.{Moves, Keeps, holds, none}
use Rattle.macro_args.specs.Args.{args_hold}
use Rattle.input_stack.specs.Pushes.{pushed_holds}
use Rattle.input_stack.specs.Calls.{body_of}
use Rattle.input_stack.specs.Pending.{room, parameter_room}
use Rattle.input_stack.specs.Rest.{number, rest}
use Rattle.input_stack.specs.View.{innermost, pending, held}
use Rattle.input_stack.proofs.Kept.{holds_itself}
use Rattle.input_stack.proofs.Pushed.{used_is, parameters_are, room_left, parameters_left, neither, put_read, put_moves}
use Rattle.input_stack.proofs.Called.{holds_are, empty_read, empty_ok, empty_refused, empty_moves, empty_keeps, full_refused, call_level, call_pending, kept_as}
use Rattle.input_stack.proofs.stack.InputStack.push_macro.Goals as goal

pub new-reader-requires : goal.new-reader-requires
new-reader-requires c = omega (arith, c.requires.held (id_of c.args.body), holds_itself (id_of c.args.body))

pub skip_places-requires : goal.skip_places-requires
skip_places-requires c = c.new-reader.ensures.at_front

pub peek-requires : goal.peek-requires
peek-requires c = c.skip_places.ensures.at_next

pub drop_finished-requires : goal.drop_finished-requires
drop_finished-requires c = c.requires.stands

pub overflow_cast-args : goal.overflow_cast-args
overflow_cast-args c = omega (arith, c.requires.filled.few, c.args.args.nine)

pub call_full-requires-clause-fits : goal.call_full-requires-clause-fits
call_full-requires-clause-fits c = c.drop_finished.ensures.stands.fits

pub put_call-requires-clause-fits : goal.put_call-requires-clause-fits
put_call-requires-clause-fits c = c.drop_finished.ensures.stands.fits

pub returns-then-is_none-clause-err : goal.returns-then-is_none-clause-err
returns-then-is_none-clause-err c = tt

pub returns-then-is_none-clause-size : goal.returns-then-is_none-clause-size
returns-then-is_none-clause-size c = refl

pub returns-then-is_none-clause-parameter_size : goal.returns-then-is_none-clause-parameter_size
returns-then-is_none-clause-parameter_size c = refl

pub returns-in-Some-clause-ok : goal.returns-in-Some-clause-ok
returns-in-Some-clause-ok c = tt

pub returns-in-Some-clause-err : goal.returns-in-Some-clause-err
returns-in-Some-clause-err c = c.drop_finished.ensures.after

pub returns-in-Some-clause-lasting : goal.returns-in-Some-clause-lasting
returns-in-Some-clause-lasting c = c.drop_finished.ensures.lasting

pub returns-in-Some-clause-size : goal.returns-in-Some-clause-size
returns-in-Some-clause-size c = c.drop_finished.ensures.size

pub returns-in-Some-clause-parameter_size : goal.returns-in-Some-clause-parameter_size
returns-in-Some-clause-parameter_size c = c.drop_finished.ensures.parameter_size

pub returns-clause-err : goal.returns-clause-err
returns-clause-err c = tt

pub returns-clause-size : goal.returns-clause-size
returns-clause-size c = c.put_call.ensures.sizes.size ∙ c.drop_finished.ensures.size

pub returns-clause-parameter_size : goal.returns-clause-parameter_size
returns-clause-parameter_size c = c.put_call.ensures.sizes.parameter_size ∙ c.drop_finished.ensures.parameter_size

pub call_full-requires-clause-few : goal.call_full-requires-clause-few
call_full-requires-clause-few c = omega (arith, c.requires.filled.few, c.args.args.nine)

pub let_unread_go-requires : goal.let_unread_go-requires
let_unread_go-requires c = λ h.
    let same : id_of c.into_list.result ≡ id_of c.args.body = c.into_list.ensures.same ∙ c.skip_places.ensures.same ∙ c.new-reader.ensures.same in
    omega (arith, c.requires.held h, ap (λ (n : ℕ). holds n h) same)

pub put_call-requires-clause-room : goal.put_call-requires-clause-room
put_call-requires-clause-room c =
    let s = c.drop_finished.new.self in
    let n = neither (parameter_room s.parameter_size (length s.arguments.items) c.args.args.count) (room s.size (length s.levels.items + s.argument_levels)) (sym c.call_full.ensures ∙ c.in_default.is) in
    room_left s.size (length s.levels.items + s.argument_levels) n.1

pub put_call-requires-clause-few : goal.put_call-requires-clause-few
put_call-requires-clause-few c =
    let s = c.drop_finished.new.self in
    let n = neither (parameter_room s.parameter_size (length s.arguments.items) c.args.args.count) (room s.size (length s.levels.items + s.argument_levels)) (sym c.call_full.ensures ∙ c.in_default.is) in
    parameters_left s.parameter_size (length s.arguments.items) c.args.args.count n.0

pub put_call-requires-clause-filled : goal.put_call-requires-clause-filled
put_call-requires-clause-filled c = c.requires.filled

pub returns-then-is_none-clause-stands : goal.returns-then-is_none-clause-stands
returns-then-is_none-clause-stands c =
    let old = c.args.lists.now in
    let s = c.args.self.now in
    let f = held s in
    let r = c.skip_places.new.self in
    let here : id_of c.into_list.result ≡ id_of c.args.body = c.into_list.ensures.same ∙ c.skip_places.ensures.same ∙ c.new-reader.ensures.same in
    let moves : Moves old c.let_unread_go.new.lists (pushed_holds c.args.body c.args.args) none = λ h. omega (arith, c.let_unread_go.ensures.account h, ap (λ (n : ℕ). holds n h) here) in
    let keeps : Keeps old c.let_unread_go.new.lists (pushed_holds c.args.body c.args.args) = kept_as old c.let_unread_go.new.lists (pushed_holds c.into_list.result c.args.args) (pushed_holds c.args.body c.args.args) (λ h. ap (λ (n : ℕ). holds n h + args_hold c.args.args h) here) c.let_unread_go.ensures.kept in
    let same : number r ≡ id_of c.args.body = c.skip_places.ensures.same ∙ c.new-reader.ensures.same in
    let left : rest old r ≡ body_of (tokens_at old (id_of c.args.body)) = c.skip_places.ensures.body ∙ ap body_of c.new-reader.ensures.whole in
    record {
      read = empty_read old f c.args.body c.args.args r (record { body = r; argument = None; args = take c.args.args.count c.args.args.lists }) refl same left c.skip_places.ensures.at_next c.requires.filled c.requires.held c.let_unread_go.new.lists (innermost s) c.peek.result c.is_none.result c.peek.ensures c.is_none.ensures c.if-is_none.true (λ h. refl) moves keeps c.requires.stands.read;
      fits = c.requires.stands.fits;
    }

pub returns-then-is_none-clause-ok : goal.returns-then-is_none-clause-ok
returns-then-is_none-clause-ok c =
    let old = c.args.lists.now in
    let s = c.args.self.now in
    let f = held s in
    let r = c.skip_places.new.self in
    let here : id_of c.into_list.result ≡ id_of c.args.body = c.into_list.ensures.same ∙ c.skip_places.ensures.same ∙ c.new-reader.ensures.same in
    let moves : Moves old c.let_unread_go.new.lists (pushed_holds c.args.body c.args.args) none = λ h. omega (arith, c.let_unread_go.ensures.account h, ap (λ (n : ℕ). holds n h) here) in
    let keeps : Keeps old c.let_unread_go.new.lists (pushed_holds c.args.body c.args.args) = kept_as old c.let_unread_go.new.lists (pushed_holds c.into_list.result c.args.args) (pushed_holds c.args.body c.args.args) (λ h. ap (λ (n : ℕ). holds n h + args_hold c.args.args h) here) c.let_unread_go.ensures.kept in
    let same : number r ≡ id_of c.args.body = c.skip_places.ensures.same ∙ c.new-reader.ensures.same in
    let left : rest old r ≡ body_of (tokens_at old (id_of c.args.body)) = c.skip_places.ensures.body ∙ ap body_of c.new-reader.ensures.whole in
    empty_ok old f c.args.body c.args.args r (record { body = r; argument = None; args = take c.args.args.count c.args.args.lists }) refl same left c.skip_places.ensures.at_next c.requires.filled c.requires.held c.let_unread_go.new.lists (innermost s) c.peek.result c.is_none.result c.peek.ensures c.is_none.ensures c.if-is_none.true (λ h. refl) moves keeps

pub returns-then-is_none-clause-refused : goal.returns-then-is_none-clause-refused
returns-then-is_none-clause-refused c =
    let old = c.args.lists.now in
    let s = c.args.self.now in
    let f = held s in
    let r = c.skip_places.new.self in
    let here : id_of c.into_list.result ≡ id_of c.args.body = c.into_list.ensures.same ∙ c.skip_places.ensures.same ∙ c.new-reader.ensures.same in
    let moves : Moves old c.let_unread_go.new.lists (pushed_holds c.args.body c.args.args) none = λ h. omega (arith, c.let_unread_go.ensures.account h, ap (λ (n : ℕ). holds n h) here) in
    let keeps : Keeps old c.let_unread_go.new.lists (pushed_holds c.args.body c.args.args) = kept_as old c.let_unread_go.new.lists (pushed_holds c.into_list.result c.args.args) (pushed_holds c.args.body c.args.args) (λ h. ap (λ (n : ℕ). holds n h + args_hold c.args.args h) here) c.let_unread_go.ensures.kept in
    let same : number r ≡ id_of c.args.body = c.skip_places.ensures.same ∙ c.new-reader.ensures.same in
    let left : rest old r ≡ body_of (tokens_at old (id_of c.args.body)) = c.skip_places.ensures.body ∙ ap body_of c.new-reader.ensures.whole in
    empty_refused old f c.args.body c.args.args r (record { body = r; argument = None; args = take c.args.args.count c.args.args.lists }) refl same left c.skip_places.ensures.at_next c.requires.filled c.requires.held c.let_unread_go.new.lists (innermost s) c.peek.result c.is_none.result c.peek.ensures c.is_none.ensures c.if-is_none.true (λ h. refl) moves keeps s.size s.parameter_size c.args.args.count (pending old s)

pub returns-then-is_none-clause-account : goal.returns-then-is_none-clause-account
returns-then-is_none-clause-account c =
    let old = c.args.lists.now in
    let s = c.args.self.now in
    let f = held s in
    let r = c.skip_places.new.self in
    let here : id_of c.into_list.result ≡ id_of c.args.body = c.into_list.ensures.same ∙ c.skip_places.ensures.same ∙ c.new-reader.ensures.same in
    let moves : Moves old c.let_unread_go.new.lists (pushed_holds c.args.body c.args.args) none = λ h. omega (arith, c.let_unread_go.ensures.account h, ap (λ (n : ℕ). holds n h) here) in
    let keeps : Keeps old c.let_unread_go.new.lists (pushed_holds c.args.body c.args.args) = kept_as old c.let_unread_go.new.lists (pushed_holds c.into_list.result c.args.args) (pushed_holds c.args.body c.args.args) (λ h. ap (λ (n : ℕ). holds n h + args_hold c.args.args h) here) c.let_unread_go.ensures.kept in
    let same : number r ≡ id_of c.args.body = c.skip_places.ensures.same ∙ c.new-reader.ensures.same in
    let left : rest old r ≡ body_of (tokens_at old (id_of c.args.body)) = c.skip_places.ensures.body ∙ ap body_of c.new-reader.ensures.whole in
    empty_moves old f c.args.body c.args.args r (record { body = r; argument = None; args = take c.args.args.count c.args.args.lists }) refl same left c.skip_places.ensures.at_next c.requires.filled c.requires.held c.let_unread_go.new.lists (innermost s) c.peek.result c.is_none.result c.peek.ensures c.is_none.ensures c.if-is_none.true (λ h. refl) moves keeps

pub returns-then-is_none-clause-kept : goal.returns-then-is_none-clause-kept
returns-then-is_none-clause-kept c =
    let old = c.args.lists.now in
    let s = c.args.self.now in
    let f = held s in
    let r = c.skip_places.new.self in
    let here : id_of c.into_list.result ≡ id_of c.args.body = c.into_list.ensures.same ∙ c.skip_places.ensures.same ∙ c.new-reader.ensures.same in
    let moves : Moves old c.let_unread_go.new.lists (pushed_holds c.args.body c.args.args) none = λ h. omega (arith, c.let_unread_go.ensures.account h, ap (λ (n : ℕ). holds n h) here) in
    let keeps : Keeps old c.let_unread_go.new.lists (pushed_holds c.args.body c.args.args) = kept_as old c.let_unread_go.new.lists (pushed_holds c.into_list.result c.args.args) (pushed_holds c.args.body c.args.args) (λ h. ap (λ (n : ℕ). holds n h + args_hold c.args.args h) here) c.let_unread_go.ensures.kept in
    let same : number r ≡ id_of c.args.body = c.skip_places.ensures.same ∙ c.new-reader.ensures.same in
    let left : rest old r ≡ body_of (tokens_at old (id_of c.args.body)) = c.skip_places.ensures.body ∙ ap body_of c.new-reader.ensures.whole in
    empty_keeps old f c.args.body c.args.args r (record { body = r; argument = None; args = take c.args.args.count c.args.args.lists }) refl same left c.skip_places.ensures.at_next c.requires.filled c.requires.held c.let_unread_go.new.lists (innermost s) c.peek.result c.is_none.result c.peek.ensures c.is_none.ensures c.if-is_none.true (λ h. refl) moves keeps

pub returns-in-Some-clause-refused : goal.returns-in-Some-clause-refused
returns-in-Some-clause-refused c =
    let old = c.args.lists.now in
    let s = c.args.self.now in
    let f = held s in
    let r = c.skip_places.new.self in
    let same : number r ≡ id_of c.args.body = c.skip_places.ensures.same ∙ c.new-reader.ensures.same in
    let left : rest old r ≡ body_of (tokens_at old (id_of c.args.body)) = c.skip_places.ensures.body ∙ ap body_of c.new-reader.ensures.whole in
    let e = c.drop_finished.ensures in
    let mid = c.drop_finished.new.lists in
    let t = c.drop_finished.new.self in
    let p = pending old s in
    let n = length t.levels.items + t.argument_levels in
    let k = full_refused old f c.args.body c.args.args r (record { body = r; argument = None; args = take c.args.args.count c.args.args.lists }) refl same left c.skip_places.ensures.at_next c.requires.filled c.requires.held c.peek.result c.is_none.result c.peek.ensures c.is_none.ensures c.if-is_none.false s.size s.parameter_size (length t.arguments.items) n t.size t.parameter_size p c.call_full.result e.size e.parameter_size (parameters_are mid t p e.stands.fits e.unfinished e.after) (used_is mid t p e.stands.fits e.unfinished e.after) c.call_full.ensures in
    (k ∙ c.in-Some.is, c.into_list-in-Some.ensures.list ∙ c.skip_places.ensures.list ∙ c.new-reader.ensures.list, refl)

pub returns-clause-refused : goal.returns-clause-refused
returns-clause-refused c =
    let old = c.args.lists.now in
    let s = c.args.self.now in
    let f = held s in
    let r = c.skip_places.new.self in
    let same : number r ≡ id_of c.args.body = c.skip_places.ensures.same ∙ c.new-reader.ensures.same in
    let left : rest old r ≡ body_of (tokens_at old (id_of c.args.body)) = c.skip_places.ensures.body ∙ ap body_of c.new-reader.ensures.whole in
    let e = c.drop_finished.ensures in
    let mid = c.drop_finished.new.lists in
    let t = c.drop_finished.new.self in
    let p = pending old s in
    let n = length t.levels.items + t.argument_levels in
    full_refused old f c.args.body c.args.args r (record { body = r; argument = None; args = take c.args.args.count c.args.args.lists }) refl same left c.skip_places.ensures.at_next c.requires.filled c.requires.held c.peek.result c.is_none.result c.peek.ensures c.is_none.ensures c.if-is_none.false s.size s.parameter_size (length t.arguments.items) n t.size t.parameter_size p c.call_full.result e.size e.parameter_size (parameters_are mid t p e.stands.fits e.unfinished e.after) (used_is mid t p e.stands.fits e.unfinished e.after) c.call_full.ensures ∙ c.in_default.is

pub returns-clause-stands : goal.returns-clause-stands
returns-clause-stands c =
    let old = c.args.lists.now in
    let s = c.args.self.now in
    let f = held s in
    let r = c.skip_places.new.self in
    let same : number r ≡ id_of c.args.body = c.skip_places.ensures.same ∙ c.new-reader.ensures.same in
    let left : rest old r ≡ body_of (tokens_at old (id_of c.args.body)) = c.skip_places.ensures.body ∙ ap body_of c.new-reader.ensures.whole in
    let e = c.drop_finished.ensures in
    let mid = c.drop_finished.new.lists in
    let t = c.drop_finished.new.self in
    let p = pending old s in
    let k = call_level old f c.args.body c.args.args r (record { body = r; argument = None; args = take c.args.args.count c.args.args.lists }) refl same left c.skip_places.ensures.at_next c.requires.filled c.requires.held c.peek.result c.is_none.result c.peek.ensures c.is_none.ensures c.if-is_none.false mid (held t) e.account e.kept in
    let h = λ (h : ℕ). holds_are old f c.args.body c.args.args r (record { body = r; argument = None; args = take c.args.args.count c.args.args.lists }) refl same left c.skip_places.ensures.at_next c.requires.filled c.requires.held h in
    record {
      read = put_read old mid (level.Call (record { body = r; argument = None; args = take c.args.args.count c.args.args.lists })) (innermost c.put_call.new.self) (innermost t) f c.put_call.ensures.list k e.stands.read e.unfinished (λ i. omega (arith, c.requires.held i, h i)) e.account;
      fits = c.put_call.ensures.fits;
    }

pub returns-clause-ok : goal.returns-clause-ok
returns-clause-ok c =
    let old = c.args.lists.now in
    let s = c.args.self.now in
    let f = held s in
    let r = c.skip_places.new.self in
    let same : number r ≡ id_of c.args.body = c.skip_places.ensures.same ∙ c.new-reader.ensures.same in
    let left : rest old r ≡ body_of (tokens_at old (id_of c.args.body)) = c.skip_places.ensures.body ∙ ap body_of c.new-reader.ensures.whole in
    let e = c.drop_finished.ensures in
    let mid = c.drop_finished.new.lists in
    let t = c.drop_finished.new.self in
    let p = pending old s in
    call_pending old f c.args.body c.args.args r (record { body = r; argument = None; args = take c.args.args.count c.args.args.lists }) refl same left c.skip_places.ensures.at_next c.requires.filled c.requires.held c.peek.result c.is_none.result c.peek.ensures c.is_none.ensures c.if-is_none.false mid (held t) e.account e.kept (innermost c.put_call.new.self) (innermost t) p c.put_call.ensures.list e.after

pub returns-clause-account : goal.returns-clause-account
returns-clause-account c = λ h.
    let old = c.args.lists.now in
    let s = c.args.self.now in
    let f = held s in
    let r = c.skip_places.new.self in
    let same : number r ≡ id_of c.args.body = c.skip_places.ensures.same ∙ c.new-reader.ensures.same in
    let left : rest old r ≡ body_of (tokens_at old (id_of c.args.body)) = c.skip_places.ensures.body ∙ ap body_of c.new-reader.ensures.whole in
    let e = c.drop_finished.ensures in
    let mid = c.drop_finished.new.lists in
    let t = c.drop_finished.new.self in
    let p = pending old s in
    omega (arith, put_moves old mid (level.Call (record { body = r; argument = None; args = take c.args.args.count c.args.args.lists })) (innermost c.put_call.new.self) (innermost t) f c.put_call.ensures.list e.account h, holds_are old f c.args.body c.args.args r (record { body = r; argument = None; args = take c.args.args.count c.args.args.lists }) refl same left c.skip_places.ensures.at_next c.requires.filled c.requires.held h)

pub returns-clause-kept : goal.returns-clause-kept
returns-clause-kept c =
    let k = c.drop_finished.ensures.kept in
    record {
      tokens = λ h less. k.tokens h (omega (arith, less));
      places = λ h less. k.places h (omega (arith, less));
    }

pub returns-clause-lasting : goal.returns-clause-lasting
returns-clause-lasting c = c.drop_finished.ensures.lasting

pub returns-in-Some-clause-stands : goal.returns-in-Some-clause-stands
returns-in-Some-clause-stands c = c.drop_finished.ensures.stands

pub returns-in-Some-clause-account : goal.returns-in-Some-clause-account
returns-in-Some-clause-account c = c.drop_finished.ensures.account

pub returns-in-Some-clause-kept : goal.returns-in-Some-clause-kept
returns-in-Some-clause-kept c = c.drop_finished.ensures.kept

pub returns-then-is_none-clause-lasting : goal.returns-then-is_none-clause-lasting
returns-then-is_none-clause-lasting c = c.let_unread_go.ensures.lasting
