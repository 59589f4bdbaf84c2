use Rattle.std.proofs.Common.{◌≡◌, ◌≤◌, ◌+◌, ◌-◌, ℕ, List, take, drop, length, arith, ap, ◌∙◌, length-drop}
use Rattle.std.proofs.lemmas.List.{length-take-le}
use borrow.Rule.Slice.PartMut.{put_mid}
use Rattle.line_lexer.specs.declared.Lexed.{Lexed}
use Rattle.line_lexer.specs.Answers.{span, given}
use Rattle.line_lexer.proofs.LinePlaces.{given_in, behind_in}
use Rattle.line_lexer.proofs.next.Goals as goal

-- the length of the line
line_long : (bytes line : List ℕ) (at end : ℕ) → at ≤ end → end ≤ length bytes → length line ≡ length (take (end - at) (drop at bytes)) → length line ≡ end - at
line_long bytes line at end h i e = e ∙ length-take-le (end - at) (drop at bytes) (omega (arith, length-drop at bytes))

pub returns-clause-gives : goal.returns-clause-gives
returns-clause-gives c =
    let at = c.args.line.now.at in
    let size = c.args.line.now.end - at in
    let bytes = c.args.bytes.now in
    let line = c.lex-answer.new.line in
    let long : length line ≡ size = line_long bytes line at c.args.line.now.end c.requires.in_order c.requires.within c.lex-answer.auto.line in
    ap (λ (x : Lexed). given (put_mid at size bytes line) c.lex-answer.result.state (span (put_mid at size bytes line) (at + c.lex-answer.result.next) c.args.line.now.end) x) c.moved.ensures ∙
    given_in bytes line at size (omega arith) long c.lex-answer.result.lexed c.lex-answer.result.state c.args.line.now.end c.lex-answer.result.next (omega arith)
    (omega (arith, c.lex-answer.ensures.inside)) c.lex-answer.ensures.takes ∙
    c.lex-answer.ensures.gives

pub returns-clause-behind : goal.returns-clause-behind
returns-clause-behind c =
    behind_in c.args.bytes.now c.lex-answer.new.line c.args.line.now.at (c.args.line.now.end - c.args.line.now.at) (omega arith)
    (line_long c.args.bytes.now c.lex-answer.new.line c.args.line.now.at c.args.line.now.end c.requires.in_order c.requires.within c.lex-answer.auto.line) c.args.line.now.end (omega arith)
