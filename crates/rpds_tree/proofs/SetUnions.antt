-- Whole sets in one: the keys of whole maps in one.
use Rattle.std.proofs.Common.{filter}
use Rattle.rpds_tree.proofs.Words.{◌≡◌, Bool, true, false, cond, is_some, is_none, Option, Some, None, List, [], ◌∷◌, refl, ap, ◌∙◌, keys_of, option_map}
use Rattle.rpds_tree.proofs.Words.{option_or, option_xor, Ordering, both_in, only_in, union_of, members_of_both, members_of_union, members_only_in}
use Rattle.rpds_tree.proofs.Words.{find_member, put_members, find, put}
use Rattle.rpds_tree.proofs.Members.{length_members, member_found, member_put}

pub some_mapped : {X Y : Type 0} (f : X → Y) (x : Option X) → is_some (option_map f x) ≡ is_some x
some_mapped f None = refl
some_mapped f (Some x) = refl

pub none_mapped : {X Y : Type 0} (f : X → Y) (x : Option X) → is_none (option_map f x) ≡ is_none x
none_mapped f None = refl
none_mapped f (Some x) = refl

pub first_or : {X Y : Type 0} (f : X → Y) (x y : Option X) → option_map f (option_or x y) ≡ option_or (option_map f x) (option_map f y)
first_or f None y = refl
first_or f (Some x) y = refl

pub first_alone : {X Y : Type 0} (f : X → Y) (x y : Option X) → option_map f (option_xor x y) ≡ option_xor (option_map f x) (option_map f y)
first_alone f None y = refl
first_alone f (Some x) None = refl
first_alone f (Some x) (Some y) = refl

pub kept : {X Y : Type 0} (f : X → Y) (b : Bool) (x : Option X) → option_map f (cond b x None) ≡ cond b (option_map f x) None
kept f true x = refl
kept f false x = refl

module _ {T V : Type 0} (R : T → T → Ordering) where
  pub members_united : (es others : List (T × V)) → keys_of (union_of R es others) ≡ members_of_union R (keys_of es) (keys_of others)
  members_united [] others = refl
  members_united (e ∷ es) others = members_united es (put R e others) ∙ ap (λ ms. put_members R ms (keys_of es)) (member_put R e others)

  members_filtered : (f : T × V → Bool) (g : T → Bool) (es : List (T × V)) → ((p : T × V) → g p.0 ≡ f p) → keys_of (filter f es) ≡ filter g (keys_of es)
  members_filtered f g [] h = refl
  members_filtered f g (e ∷ es) h = rw (h e) (elim (f e) as (λ b. keys_of (cond b (e ∷ filter f es) (filter f es))
      ≡ cond b (e.0 ∷ filter g (keys_of es)) (filter g (keys_of es))) [
        | true ↦ ap (λ t. e.0 ∷ t) (members_filtered f g es h)
        | false ↦ members_filtered f g es h
      ])

  pub members_both : (es others : List (T × V)) → keys_of (both_in R es others) ≡ members_of_both R (keys_of es) (keys_of others)
  members_both es others = members_filtered (λ p. is_some (find R p.0 others)) (λ m. is_some (find_member R m (keys_of others))) es
      (λ p. ap is_some (member_found R p.0 others) ∙ some_mapped (λ (q : T × V). q.0) (find R p.0 others))

  pub members_only : (es others : List (T × V)) → keys_of (only_in R es others) ≡ members_only_in R (keys_of es) (keys_of others)
  members_only es others = members_filtered (λ p. is_none (find R p.0 others)) (λ m. is_none (find_member R m (keys_of others))) es
      (λ p. ap is_none (member_found R p.0 others) ∙ none_mapped (λ (q : T × V). q.0) (find R p.0 others))

pub ruleset union_rules = (length_members, members_united, members_both, members_only, member_found, some_mapped, none_mapped, first_or, first_alone, kept)
