use Rattle.std.proofs.Common.{◌≡◌, ◌+◌, ◌≤◌, ◌++◌, ℕ, List, length, take, drop, set, arith, ap, ◌∙◌, sym, subst}
use Rattle.std.specs.Prelude.{Some, None}
use Rattle.std.proofs.lemmas.List.{length-take-le}
use Rattle.plain_tokens.specs.Lines.{has_feed, before_feed, behind_feed, without_last}
use Rattle.line_reader.specs.Ahead.{Ahead, IsWindowAt, ahead_of, with_ahead}
use Rattle.line_reader.specs.OpenLines.{used, refusal}
use Rattle.line_reader.proofs.Views.{room, part_of_view}
use Rattle.line_reader.proofs.Gathering.{is_none, bytes_at, reader_at, set_at, length_set, gathered_is, gathered_sound, sure_is, byte_fits, ahead_same}
use Rattle.line_reader.proofs.buffer.Buffer.gather.Goals as goal

pub returns-in-Some-refusal-clause-answer : goal.returns-in-Some-refusal-clause-answer
returns-in-Some-refusal-clause-answer c =
    let i = c.self.inside in
    let b = c.args.self.now in
    let p = c.measure-piece.result in
    let at : IsWindowAt c.args.id i.windows.items c.in-Some.at = subst (λ (ws : List Ahead). IsWindowAt c.args.id ws c.in-Some.at) c.deref.ensures.value c.in-Some.ensures in
    let m : c.bytes.result.now ≡ ahead_of c.args.id i.windows.items = c.bytes.ensures.bytes ∙ bytes_at c.args.id i.windows.items c.in-Some.at at c.index.result.now c.index.ensures in
    let sure = sure_is _ _ _ _ _ _ _ _ _ _ _ c.self.view_is c.self.invariant c.args.id p.sure c.deref-2.result.now c.bytes.result.now c.deref-2.ensures.value m c.measure-piece.ensures.sure in
    subst (λ (n : ℕ). refusal b (n + 1) ≡ Some c.in-Some-refusal.full) sure (sym c.refusal.ensures ∙ c.in-Some-refusal.is)

pub move_to-requires-clause-within : goal.move_to-requires-clause-within
move_to-requires-clause-within c =
    let i = c.self.inside in
    let b = c.args.self.now in
    let p = c.measure-piece.result in
    let at : IsWindowAt c.args.id i.windows.items c.in-Some.at = subst (λ (ws : List Ahead). IsWindowAt c.args.id ws c.in-Some.at) c.deref.ensures.value c.in-Some.ensures in
    let m : c.bytes.result.now ≡ ahead_of c.args.id i.windows.items = c.bytes.ensures.bytes ∙ bytes_at c.args.id i.windows.items c.in-Some.at at c.index.result.now c.index.ensures in
    let w = c.index_mut-window.result.now in
    let same : c.bytes.result.now ≡ w.bytes = m ∙ sym (bytes_at c.args.id i.windows.items c.in-Some.at at w c.index_mut-window.ensures.value) in
    subst (λ (xs : List ℕ). p.count ≤ length xs) same c.measure-piece.ensures.within

pub move_to-requires-clause-known : goal.move_to-requires-clause-known
move_to-requires-clause-known c =
    let i = c.self.inside in
    let b = c.args.self.now in
    let p = c.measure-piece.result in
    let at : IsWindowAt c.args.id i.windows.items c.in-Some.at = subst (λ (ws : List Ahead). IsWindowAt c.args.id ws c.in-Some.at) c.deref.ensures.value c.in-Some.ensures in
    let m : c.bytes.result.now ≡ ahead_of c.args.id i.windows.items = c.bytes.ensures.bytes ∙ bytes_at c.args.id i.windows.items c.in-Some.at at c.index.result.now c.index.ensures in
    let w = c.index_mut-window.result.now in
    let same : c.bytes.result.now ≡ w.bytes = m ∙ sym (bytes_at c.args.id i.windows.items c.in-Some.at at w c.index_mut-window.ensures.value) in
    subst (λ (xs : List ℕ). p.gone ≤ length xs) same c.measure-piece.ensures.known

pub move_to-requires-clause-room : goal.move_to-requires-clause-room
move_to-requires-clause-room c =
    let i = c.self.inside in
    let b = c.args.self.now in
    let p = c.measure-piece.result in
    let at : IsWindowAt c.args.id i.windows.items c.in-Some.at = subst (λ (ws : List Ahead). IsWindowAt c.args.id ws c.in-Some.at) c.deref.ensures.value c.in-Some.ensures in
    let m : c.bytes.result.now ≡ ahead_of c.args.id i.windows.items = c.bytes.ensures.bytes ∙ bytes_at c.args.id i.windows.items c.in-Some.at at c.index.result.now c.index.ensures in
    let sure = sure_is _ _ _ _ _ _ _ _ _ _ _ c.self.view_is c.self.invariant c.args.id p.sure c.deref-2.result.now c.bytes.result.now c.deref-2.ensures.value m c.measure-piece.ensures.sure in
    let fits : used b + (p.sure + 1) ≤ b.buffer_size = room b (p.sure + 1) (λ full e. c.in_default-refusal.not-Some full (c.refusal.ensures ∙ e)) in
    let same : c.bytes.result.now ≡ ahead_of c.args.id b.ahead = m ∙ sym (ahead_same _ _ _ _ _ _ _ _ _ _ _ c.self.view_is c.self.invariant c.args.id) in
    let count : length (before_feed (ahead_of c.args.id b.ahead)) ≡ p.count = ap (λ (xs : List ℕ). length (before_feed xs)) (sym same) ∙ ap length (sym c.measure-piece.ensures.before) ∙ length-take-le p.count c.bytes.result.now c.measure-piece.ensures.within in
    byte_fits _ _ _ _ _ _ _ _ _ _ _ c.self.view_is c.self.invariant c.args.id p.count p.sure count sure fits

pub invariant_of-self : goal.invariant_of-self
invariant_of-self c =
    let i = c.self.inside in
    let b = c.args.self.now in
    let p = c.measure-piece.result in
    let a : List ℕ = ahead_of c.args.id i.windows.items in
    let at : IsWindowAt c.args.id i.windows.items c.in-Some.at = subst (λ (ws : List Ahead). IsWindowAt c.args.id ws c.in-Some.at) c.deref.ensures.value c.in-Some.ensures in
    let m : c.bytes.result.now ≡ a = c.bytes.ensures.bytes ∙ bytes_at c.args.id i.windows.items c.in-Some.at at c.index.result.now c.index.ensures in
    let w = c.index_mut-window.result.now in
    let bytes : w.bytes ≡ a = bytes_at c.args.id i.windows.items c.in-Some.at at w c.index_mut-window.ensures.value in
    let front : take p.count a ≡ before_feed a = subst (λ (xs : List ℕ). take p.count xs ≡ before_feed xs) m c.measure-piece.ensures.before in
    let line : c.move_to.new.line.items ≡ i.bytes.items ++ before_feed a = c.move_to.ensures.moved ∙ ap (λ (xs : List ℕ). i.bytes.items ++ take p.count xs) bytes ∙ ap (λ (xs : List ℕ). i.bytes.items ++ xs) front in
    let sure = sure_is _ _ _ _ _ _ _ _ _ _ _ c.self.view_is c.self.invariant c.args.id p.sure c.deref-2.result.now c.bytes.result.now c.deref-2.ensures.value m c.measure-piece.ensures.sure in
    let fits : used b + (p.sure + 1) ≤ b.buffer_size = room b (p.sure + 1) (λ full e. c.in_default-refusal.not-Some full (c.refusal.ensures ∙ e)) in
    let fits' : used b + (length (without_last 13 (b.tail ++ before_feed (ahead_of c.args.id b.ahead))) + 1) ≤ b.buffer_size = subst (λ (n : ℕ). used b + (n + 1) ≤ b.buffer_size) sure fits in
    gathered_sound _ _ _ _ _ _ _ _ _ _ _ c.self.view_is c.self.invariant c.args.id c.move_to.new.line.items _ _ (sym (part_of_view _ _ _ _ _ _ _ _ _ _ _ c.self.view_is c.self.invariant) ∙ c.requires.part) line (omega (arith, length_set c.args.id i.windows.items c.in-Some.at at c.move_to.new.self)) fits' c.move_to.ensures.capacity

pub returns-clause-answer : goal.returns-clause-answer
returns-clause-answer c =
    let i = c.self.inside in
    let b = c.args.self.now in
    let p = c.measure-piece.result in
    let at : IsWindowAt c.args.id i.windows.items c.in-Some.at = subst (λ (ws : List Ahead). IsWindowAt c.args.id ws c.in-Some.at) c.deref.ensures.value c.in-Some.ensures in
    let m : c.bytes.result.now ≡ ahead_of c.args.id i.windows.items = c.bytes.ensures.bytes ∙ bytes_at c.args.id i.windows.items c.in-Some.at at c.index.result.now c.index.ensures in
    let sure = sure_is _ _ _ _ _ _ _ _ _ _ _ c.self.view_is c.self.invariant c.args.id p.sure c.deref-2.result.now c.bytes.result.now c.deref-2.ensures.value m c.measure-piece.ensures.sure in
    let none : c.refusal.result ≡ None = is_none _ c.in_default-refusal.not-Some in
    subst (λ (n : ℕ). refusal b (n + 1) ≡ None) sure (sym c.refusal.ensures ∙ none)

pub returns-clause-feed : goal.returns-clause-feed
returns-clause-feed c =
    let i = c.self.inside in
    let b = c.args.self.now in
    let p = c.measure-piece.result in
    let at : IsWindowAt c.args.id i.windows.items c.in-Some.at = subst (λ (ws : List Ahead). IsWindowAt c.args.id ws c.in-Some.at) c.deref.ensures.value c.in-Some.ensures in
    let m : c.bytes.result.now ≡ ahead_of c.args.id i.windows.items = c.bytes.ensures.bytes ∙ bytes_at c.args.id i.windows.items c.in-Some.at at c.index.result.now c.index.ensures in
    let same : c.bytes.result.now ≡ ahead_of c.args.id b.ahead = m ∙ sym (ahead_same _ _ _ _ _ _ _ _ _ _ _ c.self.view_is c.self.invariant c.args.id) in
    subst (λ (xs : List ℕ). has_feed xs ≡ p.ends) same c.measure-piece.ensures.found

pub returns-clause-after : goal.returns-clause-after
returns-clause-after c =
    let i = c.self.inside in
    let b = c.args.self.now in
    let p = c.measure-piece.result in
    let a : List ℕ = ahead_of c.args.id i.windows.items in
    let at : IsWindowAt c.args.id i.windows.items c.in-Some.at = subst (λ (ws : List Ahead). IsWindowAt c.args.id ws c.in-Some.at) c.deref.ensures.value c.in-Some.ensures in
    let m : c.bytes.result.now ≡ a = c.bytes.ensures.bytes ∙ bytes_at c.args.id i.windows.items c.in-Some.at at c.index.result.now c.index.ensures in
    let w = c.index_mut-window.result.now in
    let bytes : w.bytes ≡ a = bytes_at c.args.id i.windows.items c.in-Some.at at w c.index_mut-window.ensures.value in
    let front : take p.count a ≡ before_feed a = subst (λ (xs : List ℕ). take p.count xs ≡ before_feed xs) m c.measure-piece.ensures.before in
    let behind : drop p.gone a ≡ behind_feed a = subst (λ (xs : List ℕ). drop p.gone xs ≡ behind_feed xs) m c.measure-piece.ensures.behind in
    let line : c.move_to.new.line.items ≡ i.bytes.items ++ before_feed a = c.move_to.ensures.moved ∙ ap (λ (xs : List ℕ). i.bytes.items ++ take p.count xs) bytes ∙ ap (λ (xs : List ℕ). i.bytes.items ++ xs) front in
    let reader : c.move_to.new.self.reader ≡ c.args.id = ap (λ (x : Ahead). x.reader) c.move_to.ensures.left ∙ reader_at c.args.id i.windows.items c.in-Some.at at w c.index_mut-window.ensures.value in
    let left : c.move_to.new.self.bytes ≡ behind_feed a = ap (λ (x : Ahead). x.bytes) c.move_to.ensures.left ∙ ap (drop p.gone) bytes ∙ behind in
    let ws : set i.windows.items c.in-Some.at c.move_to.new.self ≡ with_ahead c.args.id (behind_feed a) i.windows.items = set_at c.args.id i.windows.items c.in-Some.at at c.move_to.new.self reader ∙ ap (λ (xs : List ℕ). with_ahead c.args.id xs i.windows.items) left in
    rw (line, ws) (gathered_is _ _ _ _ _ _ _ _ _ _ _ c.self.view_is c.self.invariant c.args.id (sym (part_of_view _ _ _ _ _ _ _ _ _ _ _ c.self.view_is c.self.invariant) ∙ c.requires.part))
