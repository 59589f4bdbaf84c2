use Rattle.std.proofs.Common.{List, Option, ℕ, ◌≡◌, ◌∙◌, sym, ap, arith, length, subst, Some}
use Rattle.token_lists.specs.declared.ListRef.{ListRef}
use Rattle.token_lists.specs.Ids.{id_of}
use Rattle.token_lists.specs.Table.{Entry, tokens_at, IsHeld}
use Rattle.token_lists.specs.Accounts.{holds}
use Rattle.tex_defs.specs.declared.Token.{Token}
use Rattle.tex_defs.specs.declared.Full.{Full}
use Rattle.input_stack.specs.declared.level.Begun.{Begun}
use Rattle.input_stack.specs.declared.level.Begun.TheVariants as begun
use Rattle.input_stack.specs.Backs.{begun_holds, IsBegun, LacksMemory, Refuses}
use Rattle.input_stack.specs.Pending.{end_token_lists, used_levels}
use Rattle.input_stack.specs.View.{innermost, pending, held}
use Rattle.input_stack.proofs.Backs.{begun_pending, begun_read, settle_twice, put_back, back_refusal, back_room, fresh_is, still_held}
use Rattle.input_stack.proofs.stack.InputStack.back.Goals as goal

lacks_begun : (table : List (Option Entry)) (full : Full) (b : Begun) → LacksMemory table full b → IsBegun table b
lacks_begun table full begun.Nothing h = tt
lacks_begun table full (begun.Build b) h = h.1
lacks_begun table full (begun.List r) h = absurd h

lacks_refuses : (table : List (Option Entry)) (size used : ℕ) (t : Token) (full : Full) (b : Begun) → LacksMemory table full b → Refuses table size used t full b
lacks_refuses table size used t full begun.Nothing h = h
lacks_refuses table size used t full (begun.Build b) h = h
lacks_refuses table size used t full (begun.List r) h = absurd h

pub drop_finished-requires : goal.drop_finished-requires
drop_finished-requires c = c.requires.stands

pub returns-in-Err-clause-ok : goal.returns-in-Err-clause-ok
returns-in-Err-clause-ok c = tt

pub returns-in-Err-clause-room : goal.returns-in-Err-clause-room
returns-in-Err-clause-room c = tt

pub returns-in-Err-clause-begun : goal.returns-in-Err-clause-begun
returns-in-Err-clause-begun c = lacks_begun c.begun.new.lists c.in-Err.refused.0 c.in-Err.refused.1 c.in-Err.ensures.refused

pub returns-in-Err-clause-refused : goal.returns-in-Err-clause-refused
returns-in-Err-clause-refused c = lacks_refuses c.begun.new.lists c.args.self.now.size (used_levels (pending c.args.lists.now c.args.self.now)) c.args.token c.in-Err.refused.0 c.in-Err.refused.1 c.in-Err.ensures.refused

pub returns-in-Err-clause-size : goal.returns-in-Err-clause-size
returns-in-Err-clause-size c = c.drop_finished.ensures.size

pub returns-in-Err-clause-parameter_size : goal.returns-in-Err-clause-parameter_size
returns-in-Err-clause-parameter_size c = c.drop_finished.ensures.parameter_size

pub returns-in-Ok-push_list-clause-err : goal.returns-in-Ok-push_list-clause-err
returns-in-Ok-push_list-clause-err c = tt

pub returns-in-Ok-push_list-clause-refused : goal.returns-in-Ok-push_list-clause-refused
returns-in-Ok-push_list-clause-refused c = tt

pub returns-in-Ok-push_list-clause-begun : goal.returns-in-Ok-push_list-clause-begun
returns-in-Ok-push_list-clause-begun c = tt

pub returns-in-Ok-push_list-clause-size : goal.returns-in-Ok-push_list-clause-size
returns-in-Ok-push_list-clause-size c = c.push_list.ensures.size ∙ c.drop_finished.ensures.size

pub returns-in-Ok-push_list-clause-parameter_size : goal.returns-in-Ok-push_list-clause-parameter_size
returns-in-Ok-push_list-clause-parameter_size c = c.push_list.ensures.parameter_size ∙ c.drop_finished.ensures.parameter_size

pub returns-in-Err-push_list-clause-ok : goal.returns-in-Err-push_list-clause-ok
returns-in-Err-push_list-clause-ok c = tt

pub returns-in-Err-push_list-clause-room : goal.returns-in-Err-push_list-clause-room
returns-in-Err-push_list-clause-room c = tt

pub returns-in-Err-push_list-clause-size : goal.returns-in-Err-push_list-clause-size
returns-in-Err-push_list-clause-size c = c.push_list.ensures.size ∙ c.drop_finished.ensures.size

pub returns-in-Err-push_list-clause-parameter_size : goal.returns-in-Err-push_list-clause-parameter_size
returns-in-Err-push_list-clause-parameter_size c = c.push_list.ensures.parameter_size ∙ c.drop_finished.ensures.parameter_size

pub push_list-requires-clause-held : goal.push_list-requires-clause-held
push_list-requires-clause-held c = λ h. omega (arith, c.drop_finished.ensures.stands.read.covers h, c.in-Ok.ensures.account h)

pub returns-in-Err-clause-account : goal.returns-in-Err-clause-account
returns-in-Err-clause-account c = λ h. omega (arith, c.drop_finished.ensures.account h, c.in-Err.ensures.account h)

pub returns-in-Err-clause-kept : goal.returns-in-Err-clause-kept
returns-in-Err-clause-kept c =
    let e = c.drop_finished.ensures in
    let b = c.begun.ensures.kept in
    record {
      tokens = λ h less. b.tokens h (omega (arith, less, e.account h)) ∙ e.kept.tokens h less;
      places = λ h less. b.places h (omega (arith, less, e.account h)) ∙ e.kept.places h less;
    }

pub returns-in-Ok-push_list-clause-stands : goal.returns-in-Ok-push_list-clause-stands
returns-in-Ok-push_list-clause-stands c = c.push_list.ensures.stands

pub returns-in-Ok-push_list-clause-account : goal.returns-in-Ok-push_list-clause-account
returns-in-Ok-push_list-clause-account c = λ h. omega (arith, c.drop_finished.ensures.account h, c.in-Ok.ensures.account h, c.in-Ok-push_list.ensures.account h)

pub returns-in-Ok-push_list-clause-kept : goal.returns-in-Ok-push_list-clause-kept
returns-in-Ok-push_list-clause-kept c =
    let e = c.drop_finished.ensures in
    let b = c.in-Ok.ensures in
    let x = c.in-Ok-push_list.ensures.kept in
    record {
      tokens = λ h less. x.tokens h (omega (arith, less, e.account h, b.account h)) ∙ b.kept.tokens h (omega (arith, less, e.account h)) ∙ e.kept.tokens h less;
      places = λ h less. x.places h (omega (arith, less, e.account h, b.account h)) ∙ b.kept.places h (omega (arith, less, e.account h)) ∙ e.kept.places h less;
    }

pub returns-in-Err-push_list-clause-stands : goal.returns-in-Err-push_list-clause-stands
returns-in-Err-push_list-clause-stands c = c.push_list.ensures.stands

pub returns-in-Err-push_list-clause-account : goal.returns-in-Err-push_list-clause-account
returns-in-Err-push_list-clause-account c = λ h. omega (arith, c.drop_finished.ensures.account h, c.in-Ok.ensures.account h, c.in-Err-push_list.ensures.account h, ap (λ (r : ListRef). holds (id_of r) h) c.in-Err-push_list.ensures.refused.1)

pub returns-in-Err-push_list-clause-kept : goal.returns-in-Err-push_list-clause-kept
returns-in-Err-push_list-clause-kept c =
    let e = c.drop_finished.ensures in
    let b = c.in-Ok.ensures in
    let x = c.in-Err-push_list.ensures.kept in
    record {
      tokens = λ h less. x.tokens h (omega (arith, less, e.account h, b.account h, e.stands.read.covers h)) ∙ b.kept.tokens h (omega (arith, less, e.account h)) ∙ e.kept.tokens h less;
      places = λ h less. x.places h (omega (arith, less, e.account h, b.account h, e.stands.read.covers h)) ∙ b.kept.places h (omega (arith, less, e.account h)) ∙ e.kept.places h less;
    }

pub returns-in-Err-clause-err : goal.returns-in-Err-clause-err
returns-in-Err-clause-err c =
    let e = c.drop_finished.ensures in
    let b = c.in-Err.ensures in
    begun_pending c.drop_finished.new.lists c.begun.new.lists (innermost c.drop_finished.new.self) (begun_holds c.in-Err.refused.1) (pending c.args.lists.now c.args.self.now) e.stands.read b.account b.kept e.after

pub push_list-requires-clause-stands : goal.push_list-requires-clause-stands
push_list-requires-clause-stands c =
    let e = c.drop_finished.ensures in
    let b = c.in-Ok.ensures in
    record {
      read = begun_read c.drop_finished.new.lists c.begun.new.lists (innermost c.drop_finished.new.self) (holds (id_of c.in-Ok.list)) e.stands.read b.account b.kept;
      fits = e.stands.fits;
    }

pub returns-in-Ok-push_list-clause-ok : goal.returns-in-Ok-push_list-clause-ok
returns-in-Ok-push_list-clause-ok c =
    let e = c.drop_finished.ensures in
    let b = c.in-Ok.ensures in
    let n = id_of c.in-Ok.list in
    let p = pending c.args.lists.now c.args.self.now in
    let q = begun_pending c.drop_finished.new.lists c.begun.new.lists (innermost c.drop_finished.new.self) (holds n) p e.stands.read b.account b.kept e.after in
    let r = c.in-Ok-push_list.ensures.ok in
    record {
      list = n;
      tokens = c.in-Ok-push_list.ensures.tokens (omega (arith, ap length b.tokens)) ∙ b.tokens;
      fresh = fresh_is c.args.lists.now c.drop_finished.new.lists (held c.args.self.now) (held c.drop_finished.new.self) n e.account b.fresh;
      put = put_back n c.args.token _ p _ _ b.tokens q r;
    }

pub returns-in-Ok-push_list-clause-room : goal.returns-in-Ok-push_list-clause-room
returns-in-Ok-push_list-clause-room c =
    let e = c.drop_finished.ensures in
    let b = c.in-Ok.ensures in
    let n = id_of c.in-Ok.list in
    let p = pending c.args.lists.now c.args.self.now in
    let q = begun_pending c.drop_finished.new.lists c.begun.new.lists (innermost c.drop_finished.new.self) (holds n) p e.stands.read b.account b.kept e.after in
    back_room c.args.self.now.size c.drop_finished.new.self.size c.args.token _ p _ b.tokens q e.size c.in-Ok-push_list.ensures.refused

pub returns-in-Err-push_list-clause-err : goal.returns-in-Err-push_list-clause-err
returns-in-Err-push_list-clause-err c =
    let e = c.drop_finished.ensures in
    let b = c.in-Ok.ensures in
    let n = id_of c.in-Ok.list in
    let p = pending c.args.lists.now c.args.self.now in
    let q = begun_pending c.drop_finished.new.lists c.begun.new.lists (innermost c.drop_finished.new.self) (holds n) p e.stands.read b.account b.kept e.after in
    c.in-Err-push_list.ensures.err ∙ ap end_token_lists q ∙ settle_twice p

pub returns-in-Err-push_list-clause-refused : goal.returns-in-Err-push_list-clause-refused
returns-in-Err-push_list-clause-refused c =
    let e = c.drop_finished.ensures in
    let b = c.in-Ok.ensures in
    let x = c.in-Err-push_list.ensures in
    let n = id_of c.in-Ok.list in
    let p = pending c.args.lists.now c.args.self.now in
    let same : id_of c.in-Err-push_list.list ≡ n = ap id_of x.refused.1 in
    let q = begun_pending c.drop_finished.new.lists c.begun.new.lists (innermost c.drop_finished.new.self) (holds n) p e.stands.read b.account b.kept e.after in
    let h = still_held c.drop_finished.new.lists c.begun.new.lists c.push_list.new.lists n (innermost c.drop_finished.new.self) (held c.push_list.new.self) b.fresh e.stands.read b.held x.account in (
      back_refusal c.args.self.now.size c.drop_finished.new.self.size c.args.token _ p _ (Some c.in-Err-push_list.full) b.tokens q e.size x.refused.0,
      subst (λ (m : ℕ). IsHeld c.push_list.new.lists m) (sym same) h,
      ap (tokens_at c.push_list.new.lists) same ∙ x.tokens (omega (arith, ap length b.tokens)) ∙ b.tokens,
    )

pub returns-in-Err-clause-stands : goal.returns-in-Err-clause-stands
returns-in-Err-clause-stands c =
    let e = c.drop_finished.ensures in
    let b = c.in-Err.ensures in
    record {
      read = begun_read c.drop_finished.new.lists c.begun.new.lists (innermost c.drop_finished.new.self) (begun_holds c.in-Err.refused.1) e.stands.read b.account b.kept;
      fits = e.stands.fits;
    }
