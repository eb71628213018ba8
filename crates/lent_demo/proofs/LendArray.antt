-- An array in memory that is lent as a `&κ mut [T]`, and comes back: `Denote/ArrayMemory.antt` and `Denote/Lend.antt` in one step each way. It holds for any type of one cell.
--     lends-array      the array's cell at (b, o) ∗ own (the array ys)  ⊢ ⇛ ∃ γ. own (the `&κ mut [T]` ((b, o), γ, ys)) ∗ the lender's part
--     array_back       [†κ] ∗ the lender's part ∗ finally γ zs  ⊢ ⇛ ∃ v. the array's cell at (b, o), with v ∗ own (the array zs) at v
-- Assumes `Logic`.
use mathlib.Core.Path.{refl, sym, subst}
use Prim.Native.Nat.{ℕ}
use mathlib.Core.List.{List, [], ◌∷◌}
use lib.ListN.{length}
use seplogic.Ra.Ura.{Ura}
use base.Fraction.{full_share}
use mir.Syntax.{Lifetime, Ty, ty_array}
use mir.Val.{Val}
use base.Logic.{SProp, ent, sep, ex}
use base.Fml.{Lft, GName, fsep, fat, fdead, flent}
use types.Logic.{Logic, sem}
use types.Kit.{‵, ◌⊛◌, some, later, ◌$◌, ◌∵◌, !, qed, move, use1, use3, split, pick, rewrite, fsplit, fjoin, fpick, fpack, feq_l, feq_i, await, updating}
use types.Kit.{now as at_once, show, done}
use types.SemTy.{cells, Arr}
use types.Share.{arr_parts}
use denote.RattleType.{RattleType}
use denote.Memory.{mem, shares, lone, cell_at, part_at, part_of}
use denote.Laws.{Is, shows}
use denote.Steps.{peeks}
use denote.Ref.{MutBor}
use denote.Slice.{slice_val, MutSlice, Room, finally}
use denote.Array.{Array, array_val}
use denote.ArrayMemory.{Single, Array-apart, Array-whole}
use denote.Lend.{Held, lends_slice, slice_back}
use denote.Index.{row, whole_out, whole_in}

module _ (R : RattleType) (one : Single R.mir) (n : ℕ) (κ : Lft) (b o : ℕ) where
  abbrev at_list : GName → List R.Denot → MutBor (List R.Denot)
  at_list γ ys = record { ref_ptr = (b, o); ghost_name = γ; now = ys }

  abbrev τ : Ty
  τ = ty_array (lone R.mir) n

  module _ {M : Type 1} {𝓤 : Ura M} (𝓛 : Logic 𝓤) where
    open 𝓛 use {H, A}

    abbrev Lent : Lifetime → List R.Denot → GName → SProp 𝓤
    Lent ℓ ys γ = sep 𝓤 (sem 𝓛 ((MutSlice ℓ κ R).own_val (at_list γ ys) (slice_val (b, o) n ∷ []))) (A.lent κ (Held R n b o γ))

    abbrev Back : List R.Denot → Val → SProp 𝓤
    Back zs v = sep 𝓤 (H.at full_share τ b o v) (sem 𝓛 ((Array R n).own_val zs (v ∷ [])))

    pub lends_array : (ℓ : Lifetime) → Room R n → (ys : List R.Denot) (v : Val) → ent 𝓤 (Back ys v) (H.⇛ (ex 𝓤 (Lent ℓ ys)))
    unfolding part_of
    lends_array ℓ room ys v =
        qed 𝓛 (‵ (fat full_share τ b o v) ∷ ‵ ((Array R n).own_val ys (v ∷ [])) ∷ []) ∵ updating ! $
        use1 𝓛 (‵ (cell_at full_share (τ ∷ []) (v ∷ []) b o)) (𝓛.laws.at_raw full_share τ b o v) $ fjoin ! $
        fpack ! (List Val) (λ vs. fsep (cell_at full_share (τ ∷ []) vs b o) ((Array R n).own_val ys vs)) (v ∷ []) $
        use1 𝓛 (‵ ((arr_parts (shares R) n).part full_share ys b o)) (Array-apart 𝓛 R full_share one n ys b o) $ fsplit ! $ feq_l ! (λ len.
        use1 𝓛 (‵ (cells (mem R) ys b o)) (whole_in 𝓛 R ys b o) $
        use1 𝓛
        (later (some (λ (γ : GName). ‵ ((MutSlice ℓ κ R).own_val (at_list γ ys) (slice_val (b, o) (length ys) ∷ [])) ⊛ ‵ (flent κ (Held R (length ys) b o γ)))))
        (lends_slice 𝓛 R ℓ κ ys b o (subst (Room R) (sym len) room)) $ await ! tt $ pick ! (λ γ. split ! $
        rewrite ! 0 (λ (m : ℕ). ‵ ((MutSlice ℓ κ R).own_val (at_list γ ys) (slice_val (b, o) m ∷ []))) len refl $ rewrite ! 1
        (λ (m : ℕ). ‵ (flent κ (Held R m b o γ))) len refl $
        at_once ! $ show ! (Lent ℓ ys) γ $ done !))

    pub array_back : (γ : GName) (zs : List R.Denot) → ent 𝓤 (sep 𝓤 (A.dead κ) (sep 𝓤 (A.lent κ (Held R n b o γ)) (sem 𝓛 (finally R γ zs))))
        (H.⇛ (ex 𝓤 (Back zs)))
    unfolding part_of
    array_back γ zs =
        qed 𝓛 (‵ (fdead κ) ∷ ‵ (flent κ (Held R n b o γ)) ∷ ‵ (finally R γ zs) ∷ []) ∵ updating ! $
        use3 𝓛 (later (‵ ((Arr (mem R) n).own_at zs b o))) (slice_back 𝓛 R κ γ zs n b o) $ await ! tt $ fsplit ! $ feq_l ! (λ len.
        use1 𝓛 (‵ (row R full_share zs b o)) (whole_out 𝓛 R zs b o) $ feq_i ! ℕ (length zs) n len $ fjoin ! $
        use1 𝓛 (‵ (part_at (Array R n) full_share zs b o)) (Array-whole 𝓛 R full_share n zs b o) $ fpick ! (λ vs. fsplit ! $ move ! (1 ∷ []) $
        peeks ! (Array R n) (Is (Array R n)) (shows 𝓛 (Array R n)) zs vs (λ g.
        rewrite ! 0 (λ (us : List Val). ‵ ((Array R n).own_val zs us)) g.1.0.0 refl $ rewrite ! 1 (λ (us : List Val). ‵ (cell_at full_share (τ ∷ []) us b o))
        g.1.0.0 refl $
        move ! (1 ∷ 0 ∷ []) $ use1 𝓛 (‵ (fat full_share τ b o (array_val g.0))) (𝓛.laws.raw_at full_share τ b o (array_val g.0)) $
        at_once ! $ show ! (Back zs) (array_val g.0) $ done !)))
