use Rattle.std.proofs.Common.{◌≡◌, ◌↔◌, ℕ, Bool, true, false, not, List, [], Option, None, Some, IsTrue, is_some, refl, rules, tests, sym}
use Rattle.std.specs.Borrow.{Bor}
use Rattle.rpds_lines.specs.Words.{words_left}
use Rattle.rpds_lines.proofs.Spaces.{words_nonempty}
use Rattle.rpds_lines.proofs.parse.words.Words.is_empty.Goals as goal

none_left : (rest : Option (Bor (List ℕ))) (empty : Bool) → is_some rest ≡ not empty → IsTrue empty ↔ words_left rest ≡ []
none_left None true is = (λ t. refl, λ e. search (rules, tests))
none_left (Some line) false is = (λ t. search (rules, tests), λ none. absurd (words_nonempty line.now none))
none_left None false is = search (rules, tests)
none_left (Some line) true is = search (rules, tests)

pub returns : goal.returns
returns c = rw (sym c.self.view_is) (none_left c.self.inside.rest c.is_none.result c.is_none.ensures)
