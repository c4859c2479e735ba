use Rattle.rpds_tree.proofs.Words.{◌≡◌, ◌≤◌, ◌∙◌, ap, length, sym, arith, IfOk-weaker, items_where_true}
use Rattle.rpds_core.proofs.Lists.{chosen_all}
use Rattle.rpds_tree.proofs.Chosen.{length_chosen, true_most}
use Rattle.rpds_tree.proofs.map.red_black_tree_map.RedBlackTreeMap.keep_by_flags_counted.Goals as goal

pub overflow_sub-go : goal.overflow_sub-go
overflow_sub-go g c = omega (arith, c.count_true-stay.ensures, c.size.ensures.count, c.requires, true_most c.args.keeps.now)

pub returns-then-go-eq0-clause-ok : goal.returns-then-go-eq0-clause-ok
returns-then-go-eq0-clause-ok g c =
    let count = length_chosen c.args.keeps.now c.args.self.now.entries c.requires in
    let all : length c.args.self.now.entries ≤ length (items_where_true c.args.keeps.now c.args.self.now.entries) = omega (
      arith,
      count,
      c.count_true-stay.ensures,
      c.size.ensures.count,
      c.if-go-eq0.true,
    ) in
    IfOk-weaker c.clone_counted.result (λ m. m ≡ c.args.self.now) (λ m. m.entries ≡ items_where_true c.args.keeps.now c.args.self.now.entries)
    (λ m same. ap (λ s. s.entries) same ∙ sym (chosen_all c.args.keeps.now c.args.self.now.entries all)) c.clone_counted.ensures.copy

pub returns-then-go-stay-clause-all : goal.returns-then-go-stay-clause-all
returns-then-go-stay-clause-all g c = λ all.
    let count = length_chosen c.args.keeps.now c.args.self.now.entries c.requires in
    absurd (c.if-go-eq0.false (omega (arith, ap length all, count, c.count_true-stay.ensures, c.size.ensures.count)))

pub returns-else-go-stay-clause-all : goal.returns-else-go-stay-clause-all
returns-else-go-stay-clause-all g c = λ all.
    let count = length_chosen c.args.keeps.now c.args.self.now.entries c.requires in
    absurd (c.if-go-eq0.false (omega (arith, ap length all, count, c.count_true-stay.ensures, c.size.ensures.count)))
