use Rattle.std.proofs.Common.{◌≡◌, ℕ, ◌<◌, List, Option, None, Some, length, refl, sym, ap, ◌∙◌, arith}
use Rattle.std.specs.Prelude.{IsSome, slice_get}
use Rattle.std.proofs.lemmas.Bool.{false≢true}
use Rattle.mem_words.specs.declared.Word.{Word}
use Rattle.mem_words.specs.Words.{link_at, IsTaken}
use Rattle.token_lists.specs.Table.{Entry, tokens_at, places_at}
use Rattle.token_lists.specs.Chains.{nil, Head, heads_of, head_at, table_of, IsSound}
use Rattle.token_lists.proofs.Views.{held_head, ends_now, goes_on_now, on_there, nil_there}
use Rattle.token_lists.proofs.Lists.first_place.Goals as goal

go : (cells : List (Option Word)) (heads : List (Option Head)) (s : IsSound cells heads) (h : ℕ) (o : Option Head) → head_at heads h ≡ o → IsSome o → IsTaken cells h
go cells heads s h None is some = absurd (false≢true some)
go cells heads s h (Some e) is some = (s.chains h e is).taken 0 (omega arith)

go_then : (cells : List (Option Word)) (heads : List (Option Head)) (now : List (Option Entry)) (s : IsSound cells heads) (view : table_of cells heads ≡ now) (h : ℕ) (o : Option Head) → head_at heads h ≡ o → IsSome o
    → link_at cells h ≡ nil → ◌≡◌ {A = Option ℕ} None (slice_get (places_at now h) 0)
go_then cells heads now s view h None is some nil = absurd (false≢true some)
go_then cells heads now s view h (Some e) is some nil = sym (ends_now cells heads now s view h e is 0 (omega arith) nil)

go_else : (cells : List (Option Word)) (heads : List (Option Head)) (now : List (Option Entry)) (s : IsSound cells heads) (view : table_of cells heads ≡ now) (h : ℕ) (o : Option Head) → head_at heads h ≡ o → IsSome o
    → (link_at cells h ≡ nil → ⊥) → ◌≡◌ {A = Option ℕ} (Some (link_at cells h)) (slice_get (places_at now h) 0)
go_else cells heads now s view h None is some on = absurd (false≢true some)
go_else cells heads now s view h (Some e) is some on = sym (goes_on_now cells heads now s view h e is 0 (omega arith) on)

pub link-place-requires : goal.link-place-requires
link-place-requires c =
    let l = c.self.inside in
    let s = c.self.invariant in
    let id = c.args.id in
    go l.mem.cells (heads_of l.mem.cells l.marks.items) s id (head_at (heads_of l.mem.cells l.marks.items) id) refl (held_head l.mem.cells (heads_of l.mem.cells l.marks.items) c.args.self.now s c.self.view_is id c.requires)

nil_first : (cells : List (Option Word)) (heads : List (Option Head)) (now : List (Option Entry)) (s : IsSound cells heads) (view : table_of cells heads ≡ now) (h : ℕ) (o : Option Head) → head_at heads h ≡ o → IsSome o
    → link_at cells h ≡ nil → 0 < length (tokens_at now h) → ⊥
nil_first cells heads now s view h None is some nil = absurd (false≢true some)
nil_first cells heads now s view h (Some e) is some nil = nil_there cells heads now s view h e is 0 (omega arith) nil

on_first : (cells : List (Option Word)) (heads : List (Option Head)) (now : List (Option Entry)) (s : IsSound cells heads) (view : table_of cells heads ≡ now) (h : ℕ) (o : Option Head) → head_at heads h ≡ o → IsSome o
    → (link_at cells h ≡ nil → ⊥) → 0 < length (tokens_at now h)
on_first cells heads now s view h None is some on = absurd (false≢true some)
on_first cells heads now s view h (Some e) is some on = on_there cells heads now s view h e is 0 (omega arith) on

pub returns-then-place-clause-place : goal.returns-then-place-clause-place
returns-then-place-clause-place c =
    let l = c.self.inside in
    let id = c.args.id in
    let held = held_head l.mem.cells (heads_of l.mem.cells l.marks.items) c.args.self.now c.self.invariant c.self.view_is id c.requires in
    let nil = sym c.link-place.ensures ∙ c.if-place.true in
    go_then l.mem.cells (heads_of l.mem.cells l.marks.items) c.args.self.now c.self.invariant c.self.view_is id (head_at (heads_of l.mem.cells l.marks.items) id) refl held nil

pub returns-then-place-clause-ends : goal.returns-then-place-clause-ends
returns-then-place-clause-ends c =
    let l = c.self.inside in
    let id = c.args.id in
    let held = held_head l.mem.cells (heads_of l.mem.cells l.marks.items) c.args.self.now c.self.invariant c.self.view_is id c.requires in
    let nil = sym c.link-place.ensures ∙ c.if-place.true in
    (λ t. absurd (false≢true t), λ below. absurd (nil_first l.mem.cells (heads_of l.mem.cells l.marks.items) c.args.self.now c.self.invariant c.self.view_is id (head_at (heads_of l.mem.cells l.marks.items) id) refl held nil below))

pub returns-else-place-clause-place : goal.returns-else-place-clause-place
returns-else-place-clause-place c =
    let l = c.self.inside in
    let id = c.args.id in
    let held = held_head l.mem.cells (heads_of l.mem.cells l.marks.items) c.args.self.now c.self.invariant c.self.view_is id c.requires in
    ap (λ (p : ℕ). Some p) c.link-place.ensures
    ∙ go_else l.mem.cells (heads_of l.mem.cells l.marks.items) c.args.self.now c.self.invariant c.self.view_is id (head_at (heads_of l.mem.cells l.marks.items) id) refl held (λ nil. c.if-place.false (c.link-place.ensures ∙ nil))

pub returns-else-place-clause-ends : goal.returns-else-place-clause-ends
returns-else-place-clause-ends c =
    let l = c.self.inside in
    let id = c.args.id in
    let held = held_head l.mem.cells (heads_of l.mem.cells l.marks.items) c.args.self.now c.self.invariant c.self.view_is id c.requires in
    (λ t. on_first l.mem.cells (heads_of l.mem.cells l.marks.items) c.args.self.now c.self.invariant c.self.view_is id (head_at (heads_of l.mem.cells l.marks.items) id) refl held (λ nil. c.if-place.false (c.link-place.ensures ∙ nil)), λ _. refl)
