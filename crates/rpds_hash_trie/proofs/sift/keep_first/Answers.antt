use Rattle.rpds_hash_trie.proofs.Words.{add-one, sym, ap, ◌∙◌, seen, put_at}
use Rattle.rpds_hash_trie.specs.HashSift.{children_below}
use Rattle.std.proofs.lemmas.Result.{on_ok_weaker}
use Rattle.rpds_hash_trie.proofs.NodeInsert.{put_seen}
use Rattle.rpds_hash_trie.proofs.OpenNodes.{item_seen, seen_item}
use Rattle.rpds_hash_trie.proofs.SiftedChildren.{below_next, below_skip}
use Rattle.rpds_hash_trie.proofs.sift.keep_first.Goals as goal

pub returns-in-None : goal.returns-in-None
returns-in-None g c =
    let cs = c.args.children.now in
    c.requires.first ∙ sym (below_skip c.args.at 0 (seen cs) c.requires.ascend (item_seen c.args.at cs ∙ ap seen_item (sym c.in-None.ensures)))
    ∙ ap (λ n. children_below n (seen cs)) (sym (add-one c.args.at))

pub returns-in_ok-clone-in-Some : goal.returns-in_ok-clone-in-Some
returns-in_ok-clone-in-Some g c =
    let cs = c.args.children.now in
    let at = c.args.at in
    let child = c.in-Some.child.now in
    let there = item_seen at cs ∙ ap seen_item (sym c.in-Some.ensures) in
    on_ok_weaker c.set.result
    (λ is. ap seen is ∙ put_seen at c.in_ok-clone-in-Some.field-0 c.args.kept.now ∙ ap (λ l. put_at at c.in_ok-clone-in-Some.field-0.value l) c.requires.first
    ∙ ap (λ v. put_at at v (children_below at (seen cs))) c.in_ok-clone-in-Some.ensures.cases ∙ sym (below_next at 0 (seen cs) child.value c.requires.ascend there)
    ∙ ap (λ n. children_below n (seen cs)) (sym (add-one at)))
    c.set.ensures.ok
