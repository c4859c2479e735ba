use Rattle.std.proofs.Common.{◌≢◌, [], sym, refl, ◌∙◌, rules}
use Rattle.std.proofs.lemmas.Bool.{false≢true}
use Rattle.rpds_lines.specs.Grammar.Items.{pieces_of_pair}
use Rattle.rpds_lines.proofs.Items.{items_begun, items_left, no_items}
use Rattle.rpds_lines.proofs.parse.command.parse_pairs.Goals as goal

pub returns-in_default-clause-read : goal.returns-in_default-clause-read
returns-in_default-clause-read g c = λ pairs fit is.
    let left = c.loop-words.words in
    let some : left ≢ [] = search rules in
    let all = (items_begun pieces_of_pair 1 (λ p. refl) c.loop-words.pairs.items c.args.words.now left c.loop-words.invariant).0 (pairs.items, fit, is) in
    no_items pieces_of_pair left some c.in_default.ensures all

pub returns-then-are_pairs-clause-memory : goal.returns-then-are_pairs-clause-memory
returns-then-are_pairs-clause-memory g c =
    let read = c.in-Some.ensures in
    let words = items_left pieces_of_pair 1 (λ p. refl) c.loop-words.pairs.items c.in-Some.pair c.next_pair.new.self c.loop-words.words c.args.words.now
    c.loop-words.invariant read.0 read.1 in
    (words.0.1 (c.are_pairs.ensures.0 c.if-are_pairs.true), words.1)

pub returns-in_default-push-clause-read : goal.returns-in_default-push-clause-read
returns-in_default-push-clause-read g c = λ pairs fit is.
    let read = c.in-Some.ensures in
    let words = items_left pieces_of_pair 1 (λ p. refl) c.loop-words.pairs.items c.in-Some.pair c.next_pair.new.self c.loop-words.words c.args.words.now
    c.loop-words.invariant read.0 read.1 in
    false≢true (sym c.if-are_pairs.false ∙ c.are_pairs.ensures.1 (words.0.0 (pairs.items, fit, is)))
