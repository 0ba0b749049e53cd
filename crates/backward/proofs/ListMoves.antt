-- What the transposes of gather and scatter leave in each lane, by meanings. Assumes nothing.
use Rattle.std.proofs.Common.{◌≡◌, ℕ, ◌<◌, false, List, length, get_or, sym, refl, ◌∙◌, subst, arith}
use Rattle.scalar.specs.Ops.{Ops}
use Rattle.scalar.proofs.Stored.{at_get, at_is}
use Rattle.shape.specs.Shapes.{cell, Lawful}
use Rattle.shape.specs.Refusals.{first_of}
use Rattle.shape.specs.declared.operand.Column.{Column}
use Rattle.shape.proofs.Blocks.{cell_fits}
use Rattle.index.specs.Indices.{outside}
use Rattle.index.specs.Transposes.{gathered_back, scattered_back, lane, GatheredBack, ScatteredBack, back_tests}
use Rattle.index.proofs.Tested.{inside_of}
use Rattle.index.proofs.Backs.{gathered_like, scattered_like}
use Rattle.backward.proofs.Accepts.{back_accepted}
use Rattle.backward.proofs.Moves.{rows}

module _ {S M : Type 0} (means : S → M) (o : Ops M) where
  -- row i of a lane of column v, at a default and by its meaning
  stored : (v : Column) (vs : List S) → Lawful v (length vs) → (b : ℕ) (d : S) (i : ℕ) → b < v.of.lanes → i < v.of.rows → lane means v vs b d i ≡ rows means o v vs b i
  stored v vs law b d i l h = sym (at_get means o vs (cell v.of b v.col i) d (cell_fits v.of (length vs) b v.col i law.fits (record { lane = l; col = law.within; row = h })))

  meaning : (v : Column) (vs : List S) (len : ℕ) (m : M) → Lawful v len → length vs ≡ len → (b i : ℕ) → b < v.of.lanes → i < v.of.rows
      → ((d : S) → means (get_or vs (cell v.of b v.col i) d) ≡ m) → rows means o v vs b i ≡ m
  meaning v vs len m law long b i l h e =
      let f = cell_fits v.of len b v.col i law.fits (record { lane = l; col = law.within; row = h }) in
      at_is means o vs (cell v.of b v.col i) m (omega arith) e

  -- after a call on two vectors v that is not refused
  module _ (v V : Column) (list : List ℕ) (k : ℕ) (ps qs : List S) (is : v ≡ V) (first : Lawful V (length ps)) (second : Lawful V (length qs))
      (long : length list ≡ V.of.rows) (inside : outside V.of.rows list ≡ false) (verdict : k ≡ first_of (back_tests v (length ps) list v (length qs))) where
    zero : k ≡ 0
    zero = subst (λ (z : Column). k ≡ first_of (back_tests z (length ps) list z (length qs))) is verdict ∙ back_accepted V (length ps) list V (length qs) first second refl long inside

    pub gathered : (cur : List S) → length cur ≡ length qs → (k ≡ 0 → GatheredBack means o list v ps v qs cur)
        → (b i : ℕ) → b < V.of.lanes → i < V.of.rows → rows means o V cur b i ≡ gathered_back o list 0 (rows means o V ps b) (rows means o V qs b) i
    gathered cur kept accepted b i l h =
        let done = subst (λ (z : Column). GatheredBack means o list z ps z qs cur) is (accepted zero) in
        meaning V cur (length qs) _ second kept b i l h
        (λ d. done.written b V.col i d (record { lane = l; col = second.within; row = h }) refl d
        ∙ gathered_like o list 0 V.of.rows (lane means V ps b d) (rows means o V ps b) (lane means V qs b d) (rows means o V qs b) (inside_of V.of.rows list inside)
        (λ j a e. stored V ps first b d j l (omega arith)) (λ j e. stored V qs second b d j l e) i h)

    pub record Scattered (ps' qs' : List S) : Type 0 where
      pub p : (b i : ℕ) → b < V.of.lanes → i < V.of.rows → rows means o V ps' b i ≡ (scattered_back o list 0 (rows means o V ps b) (rows means o V qs b)).0 i
      pub q : (b i : ℕ) → b < V.of.lanes → i < V.of.rows → rows means o V qs' b i ≡ (scattered_back o list 0 (rows means o V ps b) (rows means o V qs b)).1 i

    pub scattered : (ps' qs' : List S) → length ps' ≡ length ps → length qs' ≡ length qs → (k ≡ 0 → ScatteredBack means o list v ps ps' v qs qs') → Scattered ps' qs'
    scattered ps' qs' kept-p kept-q accepted =
        let done = subst (λ (z : Column). ScatteredBack means o list z ps ps' z qs qs') is (accepted zero) in
        let like = λ (b : ℕ) (l : b < V.of.lanes) (d : S).
        scattered_like o list 0 V.of.rows V.of.rows (lane means V ps b d) (rows means o V ps b) (lane means V qs b d) (rows means o V qs b) (inside_of V.of.rows list inside) (omega arith)
        (λ j e. stored V ps first b d j l e) (λ j e. stored V qs second b d j l e) in
        record {
          p = λ b i l h. meaning V ps' (length ps) _ first kept-p b i l h (λ d. done.0.written b V.col i d (record { lane = l; col = first.within; row = h }) refl d ∙ (like b l d).first i h);
          q = λ b i l h. meaning V qs' (length qs) _ second kept-q b i l h (λ d. done.1.written b V.col i d (record { lane = l; col = second.within; row = h }) refl d ∙ (like b l d).second i h);
        }
