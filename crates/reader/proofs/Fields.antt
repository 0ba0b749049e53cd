-- The forms of lines: what reading their fields tells of the line. Assumes nothing.
use Rattle.std.proofs.Common.{◌≡◌, ℕ, ◌+◌, ◌<◌, ◌≤◌, true, false, cond, List, [], ◌∷◌, length, get_or, take, drop, ℤ, pos, Some, None, IsUtf8, Option, sym, refl, ap, ◌∙◌, subst, ⊎_elim, arith}
use lib.Seq.{paste}
use Rattle.std.specs.List.{between}
use Rattle.std.specs.Option.{option_map}
use Rattle.std.specs.Str.{bytes_eq}
use Rattle.std.proofs.lemmas.Slice.Eq.{bytes_eq-Decides}
use Rattle.std.proofs.lemmas.List.{take_all, drop_all}
use Rattle.std.proofs.lemmas.Bool.{cases_Bool, cond-true, cond-false, and_from, and_right, eq-eqb, ne_eqb}
use Rattle.lex.specs.Lines.{fields, more, before}
use Rattle.lex.proofs.Parts.{fields_cut, after_tab, more_after}
use Rattle.words.specs.declared.Memory.{Memory}
use Rattle.words.specs.declared.Memory.TheVariants.{D, E, U, V, P, Q}
use Rattle.words.specs.declared.StepWord.{StepWord}
use Rattle.words.specs.declared.StepWord.TheVariants.{Update, Cols, SumCol, AddCol, SetCol, Axpy, Copy, Scale, Gather, Scatter}
use Rattle.reader.specs.declared.program.Ring.{Ring}
use Rattle.reader.specs.declared.program.Ring.TheVariants.{Wrap, Residue}
use Rattle.reader.specs.Grammar.{IsRing, ring_spelling, ring_line, size_line, cell_line, cell_at, is_table, list_line, value_line, place_fields, plain_fields, takes, kind_of}
use Rattle.reader.specs.Grammar.Line.{ring, size, step}

-- ---- the ring

named : (w : List ℕ) (r : Option Ring) → IsRing w r → option_map ring r ≡ ring_line (w ∷ [])
named w (Some Wrap) h = ap (λ (v : List ℕ). ring_line (v ∷ [])) (sym h)
named w (Some Residue) h = ap (λ (v : List ℕ). ring_line (v ∷ [])) (sym h)
named w None h =
    let no : (x : Ring) → bytes_eq w (ring_spelling x) ≡ false = λ x. ⊎_elim (λ t. absurd (h x ((bytes_eq-Decides w (ring_spelling x)).0 t))) (λ f. f) (cases_Bool (bytes_eq w (ring_spelling x))) in
    sym (cond-false _ _ _ (no Wrap) ∙ cond-false _ _ _ (no Residue))

module _ (rest : List ℕ) (some : 0 < length rest) (tab : get_or rest 0 0 ≡ 9) where
  abbrev name : List ℕ
  name = between 1 (length rest) rest

  opened : more rest ≡ fields name
  opened = ap more (after_tab rest some tab)

  alone : length name ≤ before 9 name → fields name ≡ name ∷ []
  alone le = fields_cut name ∙ ap (λ (t : List ℕ). t ∷ more (drop (before 9 name) name)) (take_all _ name le) ∙ ap (λ (t : List ℕ). name ∷ more t) (drop_all _ name le)

  pub ring_named : (r : Option Ring) → length name ≤ before 9 name → IsRing name r → option_map ring r ≡ ring_line (more rest)
  ring_named r le h = named name r h ∙ ap ring_line (sym (opened ∙ alone le))

  text : (x : Ring) → IsUtf8 (ring_spelling x)
  unfolding lib.Utf8.encode
  text Wrap = (ring_spelling Wrap, (refl, refl))
  text Residue = (ring_spelling Residue, (refl, refl))

  pub ring_no_text : length name ≤ before 9 name → (IsUtf8 name → ⊥) → None ≡ ring_line (more rest)
  ring_no_text le bad = ring_named None le (λ x e. bad (subst IsUtf8 (sym e) (text x)))

  two : (f : List ℕ) (t : List ℕ) → ring_line (f ∷ fields t) ≡ None
  two f t = ap (λ (gs : List (List ℕ)). ring_line (f ∷ gs)) (fields_cut t)

  pub ring_two : before 9 name < length name → None ≡ ring_line (more rest)
  ring_two lt = sym (ap ring_line (opened ∙ fields_cut name) ∙ ap (λ (gs : List (List ℕ)). ring_line (take (before 9 name) name ∷ gs)) (more_after name lt) ∙ two (take (before 9 name) name) (drop (before 9 name + 1) name))

-- ---- the size

pub size_none : (o : Option (List ℕ)) → o ≡ None → None ≡ size_line o
size_none o e = sym (ap size_line e)

pub size_count : (o : Option (List ℕ)) (ps : List ℕ) → o ≡ Some ps → (length ps ≡ 3 → ⊥) → None ≡ size_line o
size_count o ps e ne = sym (ap size_line e ∙ cond-false _ _ _ (ne_eqb _ _ ne))

three : (ps : List ℕ) → length ps ≡ 3 → Some (size (get_or (paste (0 ∷ 0 ∷ 0 ∷ []) 0 ps 3) 0 0) (get_or (paste (0 ∷ 0 ∷ 0 ∷ []) 0 ps 3) 1 0) (get_or (paste (0 ∷ 0 ∷ 0 ∷ []) 0 ps 3) 2 0)) ≡ size_line (Some ps)
three [] h = absurd (omega arith)
three (a ∷ []) h = absurd (omega arith)
three (a ∷ b ∷ []) h = absurd (omega arith)
three (a ∷ b ∷ c ∷ []) h = refl
three (a ∷ b ∷ c ∷ d ∷ ps) h = absurd (omega arith)

pub size_some : (o : Option (List ℕ)) (ps new : List ℕ) (n : ℕ) → o ≡ Some ps → n ≡ length ps → n ≡ 3 → new ≡ paste (0 ∷ 0 ∷ 0 ∷ []) 0 ps n → Some (size (get_or new 0 0) (get_or new 1 0) (get_or new 2 0)) ≡ size_line o
size_some o ps new n e l t p =
    let q : new ≡ paste (0 ∷ 0 ∷ 0 ∷ []) 0 ps 3 = p ∙ ap (paste (0 ∷ 0 ∷ 0 ∷ []) 0 ps) t in
    ap (λ (xs : List ℕ). Some (size (get_or xs 0 0) (get_or xs 1 0) (get_or xs 2 0))) q ∙ three ps (sym l ∙ t) ∙ sym (ap size_line e)

-- ---- the cell

pub cell_none : (m : Memory) (o : Option (List ℕ)) (q : Option (List ℤ)) (ps : List ℕ) → o ≡ Some ps → q ≡ None → None ≡ cell_line m o q
cell_none m o q ps a b = sym (ap (λ (x : Option (List ℕ)). cell_line m x q) a ∙ ap (cell_line m (Some ps)) b)

pub cell_count : (m : Memory) (o : Option (List ℕ)) (q : Option (List ℤ)) (ps : List ℕ) (vs : List ℤ) → o ≡ Some ps → q ≡ Some vs → (length vs ≡ 1 → ⊥) → None ≡ cell_line m o q
cell_count m o q ps vs a b ne = sym (ap (λ (x : Option (List ℕ)). cell_line m x q) a ∙ ap (cell_line m (Some ps)) b ∙ cond-false _ _ _ (and_right _ _ (ne_eqb _ _ ne)))

single : (got new : List ℤ) → length got ≡ 1 → new ≡ paste (pos 0 ∷ []) 0 got 1 → get_or new 0 (pos 0) ≡ get_or got 0 (pos 0)
single [] new h e = absurd (omega arith)
single (v ∷ []) new h e = ap (λ (xs : List ℤ). get_or xs 0 (pos 0)) e
single (v ∷ w ∷ vs) new h e = absurd (omega arith)

at_least_two : (m : Memory) → 2 ≤ place_fields m
at_least_two m = elim (is_table m) as (λ t. 2 ≤ cond t 3 2) [ true ↦ omega arith | false ↦ omega arith ]

at_most_three : (m : Memory) → place_fields m ≤ 3
at_most_three m = elim (is_table m) as (λ t. cond t 3 2 ≤ 3) [ true ↦ omega arith | false ↦ omega arith ]

-- the three entries that two or three place fields were read into name the same cell
placed : (m : Memory) (ps : List ℕ) (v : ℤ) → length ps ≡ place_fields m → let new = paste (0 ∷ 0 ∷ 0 ∷ []) 0 ps (length ps) in cell_at m (get_or new 0 0 ∷ get_or new 1 0 ∷ get_or new 2 0 ∷ []) v ≡ cell_at m ps v
placed m [] v h = absurd (omega (arith, at_least_two m))
placed m (a ∷ []) v h = absurd (omega (arith, at_least_two m))
placed D (a ∷ b ∷ []) v h = absurd (omega arith)
placed E (a ∷ b ∷ []) v h = absurd (omega arith)
placed U (a ∷ b ∷ []) v h = refl
placed V (a ∷ b ∷ []) v h = refl
placed P (a ∷ b ∷ []) v h = refl
placed Q (a ∷ b ∷ []) v h = refl
placed D (a ∷ b ∷ c ∷ []) v h = refl
placed E (a ∷ b ∷ c ∷ []) v h = refl
placed U (a ∷ b ∷ c ∷ []) v h = absurd (omega arith)
placed V (a ∷ b ∷ c ∷ []) v h = absurd (omega arith)
placed P (a ∷ b ∷ c ∷ []) v h = absurd (omega arith)
placed Q (a ∷ b ∷ c ∷ []) v h = absurd (omega arith)
placed m (a ∷ b ∷ c ∷ d ∷ ps) v h = absurd (omega (arith, at_most_three m))

pub cell_some : (m : Memory) (o : Option (List ℕ)) (q : Option (List ℤ)) (ps : List ℕ) (vs : List ℤ) (new : List ℕ) (new' : List ℤ) (n k : ℕ) → o ≡ Some ps → q ≡ Some vs → n ≡ place_fields m → n ≡ length ps → k ≡ length vs → k ≡ 1
    → new ≡ paste (0 ∷ 0 ∷ 0 ∷ []) 0 ps n → new' ≡ paste (pos 0 ∷ []) 0 vs k → Some (cell_at m (get_or new 0 0 ∷ get_or new 1 0 ∷ get_or new 2 0 ∷ []) (get_or new' 0 (pos 0))) ≡ cell_line m o q
cell_some m o q ps vs new new' n k a b w l lv one e e' =
    let x : new ≡ paste (0 ∷ 0 ∷ 0 ∷ []) 0 ps (length ps) = e ∙ ap (paste (0 ∷ 0 ∷ 0 ∷ []) 0 ps) l in
    let v : get_or new' 0 (pos 0) ≡ get_or vs 0 (pos 0) = single vs new' (sym lv ∙ one) (e' ∙ ap (paste (pos 0 ∷ []) 0 vs) one) in
    ap (λ (xs : List ℕ). Some (cell_at m (get_or xs 0 0 ∷ get_or xs 1 0 ∷ get_or xs 2 0 ∷ []) (get_or new' 0 (pos 0)))) x
    ∙ ap Some (placed m ps (get_or new' 0 (pos 0)) (sym l ∙ w)) ∙ ap (λ (z : ℤ). Some (cell_at m ps z)) v
    ∙ sym (ap (λ (y : Option (List ℕ)). cell_line m y q) a ∙ ap (cell_line m (Some ps)) b ∙ cond-true _ _ _ (and_from _ _ (eq-eqb _ _ (sym l ∙ w)) (eq-eqb _ _ (sym lv ∙ one))))

-- ---- a step with a list

pub list_none : (w : StepWord) (o : Option (List ℕ)) → o ≡ None → list_line w o ≡ None
list_none w o e = ap (list_line w) e

pub list_some : (w : StepWord) (o : Option (List ℕ)) (is : List ℕ) → o ≡ Some is → list_line w o ≡ Some (step (kind_of w []) [] is)
list_some w o is e = ap (list_line w) e

pub listed_kind : (w : StepWord) → kind_of w (0 ∷ 0 ∷ []) ≡ kind_of w []
listed_kind Update = refl
listed_kind Cols = refl
listed_kind SumCol = refl
listed_kind AddCol = refl
listed_kind SetCol = refl
listed_kind Axpy = refl
listed_kind Copy = refl
listed_kind Scale = refl
listed_kind Gather = refl
listed_kind Scatter = refl

-- ---- a step with plain numbers and values

module _ (w : StepWord) (o : Option (List ℕ)) (q : Option (List ℤ)) (ps : List ℕ) (a : o ≡ Some ps) where
  with_plains : value_line w o q ≡ value_line w (Some ps) q
  with_plains = ap (λ (x : Option (List ℕ)). value_line w x q) a

  pub values_none : q ≡ None → value_line w o q ≡ None
  values_none b = with_plains ∙ ap (value_line w (Some ps)) b

  module _ (vs : List ℤ) (b : q ≡ Some vs) where
    pub values_count : takes w (length vs) ≡ false → value_line w o q ≡ None
    values_count t = with_plains ∙ ap (value_line w (Some ps)) b ∙ cond-false _ _ _ (and_right _ _ t)

    pub values_some : length ps ≡ plain_fields w → takes w (length vs) ≡ true → value_line w o q ≡ Some (step (kind_of w ps) vs [])
    values_some l t = with_plains ∙ ap (value_line w (Some ps)) b ∙ cond-true _ _ _ (and_from _ _ (eq-eqb _ _ l) t)

-- the kind is that of the two entries that its plain numbers were read into
abbrev padded : List ℕ → List ℕ
padded ps = paste (0 ∷ 0 ∷ []) 0 ps (length ps)

padded_is : (ps : List ℕ) → length ps ≤ 2 → (get_or (padded ps) 0 0 ≡ get_or ps 0 0) × (get_or (padded ps) 1 0 ≡ get_or ps 1 0)
padded_is [] h = (refl, refl)
padded_is (a ∷ []) h = (refl, refl)
padded_is (a ∷ b ∷ []) h = (refl, refl)
padded_is (a ∷ b ∷ c ∷ ps) h = absurd (omega arith)

of_two : (w : StepWord) (ps : List ℕ) → kind_of w (get_or ps 0 0 ∷ get_or ps 1 0 ∷ []) ≡ kind_of w ps
of_two Update ps = refl
of_two Cols ps = refl
of_two SumCol ps = refl
of_two AddCol ps = refl
of_two SetCol ps = refl
of_two Axpy ps = refl
of_two Copy ps = refl
of_two Scale ps = refl
of_two Gather ps = refl
of_two Scatter ps = refl

pub padded_kind : (w : StepWord) (ps new : List ℕ) (n : ℕ) → n ≡ length ps → n ≤ 2 → new ≡ paste (0 ∷ 0 ∷ []) 0 ps n → kind_of w (get_or new 0 0 ∷ get_or new 1 0 ∷ []) ≡ kind_of w ps
padded_kind w ps new n l le e =
    let lp : length ps ≤ 2 = omega arith in
    let same : new ≡ padded ps = e ∙ ap (paste (0 ∷ 0 ∷ []) 0 ps) l in
    ap (λ (xs : List ℕ). kind_of w (get_or xs 0 0 ∷ get_or xs 1 0 ∷ [])) same
    ∙ ap (λ (z : ℕ). kind_of w (z ∷ get_or (padded ps) 1 0 ∷ [])) (padded_is ps lp).0
    ∙ ap (λ (z : ℕ). kind_of w (get_or ps 0 0 ∷ z ∷ [])) (padded_is ps lp).1
    ∙ of_two w ps
