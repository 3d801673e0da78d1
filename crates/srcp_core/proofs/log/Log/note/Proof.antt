-- The body of `note` is empty. The walk opens the borrow, and closes it at the log with one more event.
use Rattle.std.proofs.Common.{[], ◌∷◌, refl}
use Rattle.std.proofs.raw_atomic.Walks.{proved}
use base.Fml.{ftrue, flft}
use base.Logic.{id⊢}
use mir.Syntax.{named}
use mir.Val.{vunit}
use types.Kit.{‵, ◌⊛◌, ◌$◌, ◌∵◌, !, qed, move, keep, use1, split, join, fsplit3, feq_i, suffices, frame, group, done}
use types.Run.{enter, of_opd, unit_lit, returns}
use types.ByLocal.{alloc_all, pass_all, free_all, look_at, sets}
use denote.Builtin.{RefOf}
use denote.Exit.{yes}
use denote.Ref.{MutRef, ShrRef, mut_vals, mut_Tells, shr_vals, shr_Tells}
use denote.Signature.{Slot, plain, named_lft}
use denote.Steps.{nothing, opens, closes}
use denote.Triple.Walked.{says, Stays, stay_ref, stay_dropped, walk_of, Goes-ref, Goes-dropped, ends_at}
use Rattle.srcp_core.specs.Notes.{noted}
use Rattle.srcp_core.specs.contracts.log.Log as log
use Rattle.srcp_core.specs.contracts.log.Note as note
use Rattle.srcp_core.specs.contracts.log.Log.note as f
use Rattle.srcp_core.proofs.log.Log.note.Statement.{statement}
use Rattle.srcp_core.proofs.log.Log.note.Code as code

abbrev lent : Slot 3
lent = RefOf (1 ∷ []) tt (plain (λ κs. note.the_row (named_lft 3 2 tt κs))) (λ κs. tt)

abbrev stayed : Stays f.ended.signature.params f.ended.kept
stayed = (stay_ref (0 ∷ []) tt (plain (λ _. log.the_row)), (stay_dropped lent yes, tt))

pub note_spec : {M : Type 1} → statement M
note_spec 𝓤 𝓛 𝓜 𝓡 wired =
    let c = f.clauses 𝓛 𝓜.mem 𝓡.returns in let W = walk_of 𝓛 f.ended stayed c in
    proved 𝓛 f.ended stayed c 𝓜 𝓡
    (Goes-ref 𝓛 3 0 tt (plain (λ _. log.the_row)), (Goes-dropped 𝓛 3 lent yes (λ κs x w. refl), tt))
    f.Key.name code.function (code.unfolded 𝓤 𝓛.H 𝓜 𝓡 wired) (λ κs. (mut_vals, (shr_vals, tt)))
    (λ κs. (mut_Tells (named 0) κs.0 log.the_row, (shr_Tells (named 1) κs.1.0 (note.the_row (named_lft 3 2 tt κs)), tt)))
    (λ κs qs bounds a n are.
    let b = a.0.ref_ptr.0 in let o = a.0.ref_ptr.1 in let vs = mut_vals a.0 in let us = shr_vals a.1.0 in
    let later : log.the_row.Denot = noted a.1.0.now a.0.now in
    let y : W.Ghost = ((κs, qs, bounds, a, (vs, (us, tt))), n) in
    qed 𝓛 (((‵ (flft κs.0 qs.0) ⊛ (‵ (flft κs.1.0 qs.1.0) ⊛ (‵ (flft κs.1.1.0 qs.1.1.0) ⊛ ‵ ftrue)))
    ⊛ (‵ ((MutRef (named 0) κs.0 log.the_row).own_val a.0 vs)
    ⊛ (‵ ((ShrRef (named 1) κs.1.0 (note.the_row (named_lft 3 2 tt κs))).own_val a.1.0 us) ⊛ ‵ ftrue))) ∷ ‵ ftrue ∷ []) ∵
    split ! $ split ! $ move ! (2 ∷ []) $ split ! $ keep ! (0 ∷ 2 ∷ 3 ∷ []) $
    -- [self; the token of its lifetime; the other tokens]
    enter ! _ _ _ _ _ $ alloc_all ! (λ l. pass_all ! refl ((tt, tt), ((tt, tt), tt)) $
    fsplit3 ! $ move ! (1 ∷ 2 ∷ 3 ∷ []) $ opens ! tt log.the_row b o (λ ws.
    sets ! (of_opd ! (unit_lit !)) refl (tt, tt) $
    move ! (1 ∷ []) $ use1 𝓛 (‵ (log.the_row.own_val later ws)) (id⊢ 𝓤 _) $
    move ! (1 ∷ 0 ∷ []) $ closes ! tt log.the_row later ws b o $
    -- [two parts of self; the token; self's first part; the other tokens]
    returns ! (look_at ! 0 refl) $ free_all ! refl $ move ! (3 ∷ []) $
    suffices ! _ (ends_at 𝓛 f.ended stayed c y vunit tt (later, (tt, tt)) (tt, (tt, tt))) $ says ! refl $
    group ! 3 $ nothing ! $ nothing ! $ join ! $ move ! (1 ∷ 0 ∷ []) $ join ! $ move ! (1 ∷ 2 ∷ []) $ join ! $
    frame ! $ frame ! $ feq_i ! _ (vunit ∷ []) _ refl $ done !)))
