-- `fails_now` and `count_freed` at a call: what each is handed, and what a caller has of it. Assumes `Logic`.
use Rattle.std.proofs.Common.{◌≡◌, ℕ, ◌<◌, ◌^◌, Bool, List, [], ◌∷◌, refl, ap, w64}
use seplogic.Ra.Ura.{Ura}
use mir.Val.{Val, vbool, vint, vptr, vunit}
use base.Logic.{SProp, ent, sep, ex, guard, id⊢}
use base.Fml.{Lft, Share, ftrue, fsep, flft}
use prog.Memory.{Memory}
use prog.Routine.{Routine}
use types.Logic.{Logic, sem}
use contract.Monad.{Fun}
use types.Kit.{‵, ◌⊛◌, some, later, ◌$◌, ◌∵◌, !, qed, move, keep, use1, split, join, pick, fjoin, feq_i, feq_l, flt_i, check, show, await, updating, now as at_once, done}
use denote.RattleType.{RattleType}
use denote.Memory.{hidden_shr}
use denote.Builtin.{bool, unit}
use denote.Steps.{nothing, only}
use denote.Triple.Statement.{Contract}
use denote.Triple.Spec.{triple_of}
use Rattle.std.specs.contracts.cell.Cell as CE
use Rattle.rpds_faults.specs.contracts.failing_allocator.Counts as counts
use Rattle.rpds_faults.specs.contracts.failing_allocator.fails_now as FN
use Rattle.rpds_faults.specs.contracts.failing_allocator.count_freed as CF

abbrev Counted : RattleType
Counted = CE.the_row counts.the_row

module _ {M : Type 1} {𝓤 : Ura M} (𝓛 : Logic 𝓤) (at_mem : Memory → SProp 𝓤) (run : Routine → Fun 𝓤) where
  abbrev pub FailsNow : Contract 𝓤
  FailsNow = triple_of 𝓛 FN.signature (FN.spec 𝓛 at_mem run)

  abbrev pub CountFreed : Contract 𝓤
  CountFreed = triple_of 𝓛 CF.signature (CF.spec 𝓛 at_mem run)

  abbrev pub at_fails_now : Lft → Share → ℕ × ℕ → ℕ → FailsNow.Ghost
  at_fails_now κ q c n = (((κ, tt), (q, tt), tt, (record { ref_ptr = c; now = record { value = tt } }, (n, tt)), (vptr c.0 c.1 ∷ [], (vint w64 n ∷ [], tt))), tt)

  abbrev pub at_count_freed : Lft → Share → ℕ × ℕ → ℕ → CountFreed.Ghost
  at_count_freed κ q c n = (((κ, tt), (q, tt), tt, (record { ref_ptr = c; now = record { value = tt } }, (n, tt)), (vptr c.0 c.1 ∷ [], (vint w64 n ∷ [], tt))), tt)

module _ {M : Type 1} {𝓤 : Ura M} (𝓛 : Logic 𝓤) (at_mem : Memory → SProp 𝓤) (run : Routine → Fun 𝓤) (κ : Lft) (q : Share) (c : ℕ × ℕ) (n : ℕ) where
  open 𝓛 use {H, A}

  pub FailsNow_goes : n < 2 ^ 64 → ent 𝓤 (sep 𝓤 (sem 𝓛 (hidden_shr Counted κ (record { value = tt }) c.0 c.1)) (A.lft κ q)) ((FailsNow 𝓛 at_mem run).pre (at_fails_now 𝓛 at_mem run κ q c n))
  FailsNow_goes f =
      qed 𝓛 (‵ (hidden_shr Counted κ (record { value = tt }) c.0 c.1) ∷ ‵ (flft κ q) ∷ []) ∵
      nothing ! $ flt_i ! n (2 ^ 64) f $ feq_i ! (List Val) (vint w64 n ∷ []) (vint w64 n ∷ []) refl $ fjoin ! $ fjoin ! $ move ! (1 ∷ []) $
      feq_i ! (List Val) (vptr c.0 c.1 ∷ []) (vptr c.0 c.1 ∷ []) refl $ fjoin ! $ fjoin ! $
      nothing ! $ move ! (2 ∷ []) $ join ! $ join ! $ nothing ! $ move ! (1 ∷ []) $ done !

  pub CountFreed_goes : n < 2 ^ 64 → ent 𝓤 (sep 𝓤 (sem 𝓛 (hidden_shr Counted κ (record { value = tt }) c.0 c.1)) (A.lft κ q)) ((CountFreed 𝓛 at_mem run).pre (at_count_freed 𝓛 at_mem run κ q c n))
  CountFreed_goes f =
      qed 𝓛 (‵ (hidden_shr Counted κ (record { value = tt }) c.0 c.1) ∷ ‵ (flft κ q) ∷ []) ∵
      nothing ! $ flt_i ! n (2 ^ 64) f $ feq_i ! (List Val) (vint w64 n ∷ []) (vint w64 n ∷ []) refl $ fjoin ! $ fjoin ! $ move ! (1 ∷ []) $
      feq_i ! (List Val) (vptr c.0 c.1 ∷ []) (vptr c.0 c.1 ∷ []) refl $ fjoin ! $ fjoin ! $
      nothing ! $ move ! (2 ∷ []) $ join ! $ join ! $ nothing ! $ move ! (1 ∷ []) $ done !

  pub FailsNow_gives : (v : Val) → ent 𝓤 ((FailsNow 𝓛 at_mem run).post (at_fails_now 𝓛 at_mem run κ q c n) v) (H.⇛ (ex 𝓤 (λ (r : Bool). guard 𝓤 (v ≡ vbool r) (A.lft κ q))))
  FailsNow_gives v =
      qed 𝓛 (types.Kit.raw ((FailsNow 𝓛 at_mem run).post (at_fails_now 𝓛 at_mem run κ q c n) v) ∷ []) ∵ updating ! $
      use1 𝓛 (later (some (λ (r : Bool). ((‵ (flft κ q) ⊛ ‵ ftrue) ⊛ ‵ (bool.own_val r (v ∷ []))) ⊛ some (λ (ws : Unit {0} × (Unit {0} × Unit {0})). ‵ (fsep ftrue (fsep ftrue ftrue)) ⊛ ‵ ftrue)))) (id⊢ 𝓤 _) $ await ! tt $ pick ! (λ r.
      split ! $ split ! $ move ! (1 ∷ []) $ feq_l ! (λ e. split ! $ at_once ! $ show ! (λ (r : Bool). guard 𝓤 (v ≡ vbool r) (A.lft κ q)) r $ check ! (ap only e) $ keep ! (0 ∷ []) $ done !))

  pub CountFreed_gives : (v : Val) → ent 𝓤 ((CountFreed 𝓛 at_mem run).post (at_count_freed 𝓛 at_mem run κ q c n) v) (H.⇛ (guard 𝓤 (v ≡ vunit) (A.lft κ q)))
  CountFreed_gives v =
      qed 𝓛 (types.Kit.raw ((CountFreed 𝓛 at_mem run).post (at_count_freed 𝓛 at_mem run κ q c n) v) ∷ []) ∵ updating ! $
      use1 𝓛 (later (some (λ (r : Unit {0}). ((‵ (flft κ q) ⊛ ‵ ftrue) ⊛ ‵ (unit.own_val r (v ∷ []))) ⊛ some (λ (ws : Unit {0} × (Unit {0} × Unit {0})). ‵ (fsep ftrue (fsep ftrue ftrue)) ⊛ ‵ ftrue)))) (id⊢ 𝓤 _) $ await ! tt $ pick ! (λ r.
      split ! $ split ! $ move ! (1 ∷ []) $ feq_l ! (λ e. split ! $ at_once ! $ check ! (ap only e) $ keep ! (0 ∷ []) $ done !))
