-- A spanning tree: a set of nodes that grows along edges, with values of the nodes that agree with what is wanted on each
-- edge of the tree. A set of edges of the tree that is even at each node but the root is empty.
use Rattle.std.proofs.Common.{inl, inr, ap₂, ◌≡◌, ◌⊎◌, ℕ, zero, suc, ◌<◌, Bool, true, false, cond, ◌&&◌, ◌||◌, eqb, List, [], ◌∷◌, ◌++◌, refl, sym, ◌∙◌, ap, arith, All, length}
use Rattle.std.specs.List.Sorted.{IsPermutation}
use Rattle.std.proofs.lemmas.List.Elements.{All-append, All-head, All-tail, All-cons, All-nil, All-weaker}
use Rattle.std.proofs.lemmas.List.Sorted.{IsPermutation-refl, IsPermutation-sym, IsPermutation-trans, IsPermutation-cons, IsPermutation-middle, All-permutation}
use Rattle.std.proofs.lemmas.Bool.{eq-eqb, ne_eqb, cases_Bool, true≢false, or_left, or_right, or_parts}
use Rattle.sg_base.specs.Parity.{xor, parity_by}
use Rattle.sg_base.specs.Sums.{sum_below}
use Rattle.sg_base.specs.Ends.{is_end, degree_parity, EndsBelow}
use Rattle.sg_base.proofs.ParityLaws.{xor_cancel, xor-false, and-true, and-false, parity_by-none, parity_by-append}
use Rattle.sg_base.proofs.SumLaws.{sum_below-zero, sum_below-same}
use Rattle.sg_base.proofs.Recounting.{parity_by-permutation}

-- how many of the numbers below n are outside A
abbrev pub count_outside : (ℕ → Bool) → ℕ → ℕ
count_outside A n = sum_below (λ x. cond (A x) 0 1) n

-- A with one more node
abbrev pub joined : (ℕ → Bool) → ℕ → ℕ → Bool
joined A x y = A y || eqb x y

-- one more node inside is one less outside
pub count_outside-joined : (A : ℕ → Bool) (x n : ℕ) → x < n → A x ≡ false → suc (count_outside (joined A x) n) ≡ count_outside A n
count_outside-joined A x zero l e = absurd (omega arith)
count_outside-joined A x (suc n) l e = grind (arith, count_outside-joined A x n, sum_below-same, ne_eqb)

-- an edge from p to q with one end inside A and one outside
record Crosses (A : ℕ → Bool) (p q : ℕ) : Type 0 where
  inner : ℕ
  outer : ℕ
  inside : A inner ≡ true
  outside : A outer ≡ false
  ends : (v : ℕ → Bool) → xor (v p) (v q) ≡ xor (v inner) (v outer)
  below : (n : ℕ) → p < n → q < n → (inner < n) × (outer < n)

-- both ends are on one side, or the edge crosses
crosses_from : (A : ℕ → Bool) (p q : ℕ) → (A p ≡ A q) ⊎ Crosses A p q
crosses_from A p q = grind (arith, cases_Bool (A p), cases_Bool (A q))

-- nodes on two sides are two
apart : (A : ℕ → Bool) (x y : ℕ) → A x ≡ true → A y ≡ false → eqb x y ≡ false
apart A x y p q = ne_eqb x y (λ (e : x ≡ y). true≢false (sym p ∙ ap A e ∙ q))

xor_twice : (x y : Bool) → xor x (xor x y) ≡ y
xor_twice x y = grind arith

module _ {X : Type 0} (a b : X → ℕ) where
  -- an edge of the list that leaves A, and the other edges
  record Leaving (A : ℕ → Bool) (E : List X) : Type 0 where
    edge : X
    others : List X
    is : IsPermutation E (edge ∷ others)
    crosses : Crosses A (a edge) (b edge)

  -- no edge leaves A, or one does
  find_leaving : (A : ℕ → Bool) (E : List X) → All (λ e. A (a e) ≡ A (b e)) E ⊎ Leaving A E
  find_leaving A [] = inl (All-nil (λ e. A (a e) ≡ A (b e)))
  find_leaving A (e ∷ E) = elim (crosses_from A (a e) (b e)) [
    | inr c ↦ inr (record { edge = e; others = E; is = IsPermutation-refl (e ∷ E); crosses = c })
    | inl same ↦ elim (find_leaving A E) [
      | inl none ↦ inl (All-cons (λ e. A (a e) ≡ A (b e)) e E same none)
      | inr f ↦ inr (record {
        edge = f.edge;
        others = e ∷ f.others;
        is = IsPermutation-trans (e ∷ E) (e ∷ f.edge ∷ f.others) (f.edge ∷ e ∷ f.others)
            (IsPermutation-cons e E (f.edge ∷ f.others) f.is) (IsPermutation-middle (e ∷ []) f.edge f.others);
        crosses = f.crosses;
      })
    ]
  ]

  module _ (n : ℕ) where
    -- from A the edges lead to every node: a set that holds A and that no edge leaves holds all
    abbrev pub Reaches : (ℕ → Bool) → List X → Type 0
    Reaches A E = (B : ℕ → Bool) → ((x : ℕ) → x < n → A x ≡ true → B x ≡ true) → All (λ e. B (a e) ≡ B (b e)) E → (x : ℕ) →
        x < n → B x ≡ true

    -- an even number of the edges that pass d end at each node outside A
    abbrev pub EvenOutside : (ℕ → Bool) → (X → Bool) → List X → Type 0
    EvenOutside A d E = (x : ℕ) → x < n → A x ≡ false → degree_parity a b d E x ≡ false

    module _ (c : X → Bool) where
      -- what a walk from A finds: values that go on from t, the edges by which it came to new nodes, and the others
      pub record Span (r : ℕ) (A t : ℕ → Bool) (E : List X) : Type 0 where
        pub values : ℕ → Bool
        pub agree : (x : ℕ) → x < n → A x ≡ true → values x ≡ t x
        pub tree : List X
        pub rest : List X
        pub is : IsPermutation E (tree ++ rest)
        pub size : length tree ≡ r
        pub fits : All (λ e. c e ≡ xor (values (a e)) (values (b e))) tree
        -- a set of edges of the tree that is even at each new node is empty
        pub bare : (d : X → Bool) → EvenOutside A d tree → All (λ e. d e ≡ false) tree

      module _ (r : ℕ) (A t : ℕ → Bool) (E : List X) (f : Leaving A E) (ends : EndsBelow a b n E) where
        abbrev inn : ℕ
        inn = f.crosses.inner

        abbrev out : ℕ
        out = f.crosses.outer

        -- what holds of the edges holds of the one and of the others
        parted : (P : X → Type 0) → All P E → P f.edge × All P f.others
        parted P h =
            let all : All P (f.edge ∷ f.others) = All-permutation P E (f.edge ∷ f.others) f.is h in
            (All-head P f.edge f.others all, All-tail P f.edge f.others all)

        nodes : (inn < n) × (out < n)
        nodes = grind (arith, parted)

        -- with the outer end inside, the other edges still lead to every node
        still_reaches : Reaches A E → Reaches (joined A out) f.others
        still_reaches reach B holds same =
            reach B (λ x l i. holds x l (or_left (A x) (eqb out x) i))
            (All-permutation P (f.edge ∷ f.others) E (IsPermutation-sym E (f.edge ∷ f.others) f.is) (All-cons P f.edge f.others at_edge same))
          where
            P : X → Type 0
            P e = B (a e) ≡ B (b e)

            at_inner : B inn ≡ true
            at_inner = holds inn nodes.0 (or_left (A inn) (eqb out inn) f.crosses.inside)

            at_outer : B out ≡ true
            at_outer = holds out nodes.1 (or_right (A out) (eqb out out) (eq-eqb out out refl))

            at_edge : B (a f.edge) ≡ B (b f.edge)
            at_edge = xor_cancel (B (a f.edge)) (B (b f.edge)) (f.crosses.ends B ∙ ap₂ xor at_inner at_outer)

        -- the values that the outer end takes from the inner one
        abbrev next : ℕ → Bool
        next y = cond (eqb out y) (xor (t inn) (c f.edge)) (t y)

        -- one edge that leaves A, in front of what goes on from its outer end
        one_more : Span r (joined A out) next f.others → Span (suc r) A t E
        one_more s = record {
          values = s.values;
          agree = agree';
          tree = f.edge ∷ s.tree;
          rest = s.rest;
          is = IsPermutation-trans E (f.edge ∷ f.others) (f.edge ∷ (s.tree ++ s.rest)) f.is (IsPermutation-cons f.edge f.others (s.tree ++ s.rest) s.is);
          size = ap suc s.size;
          fits = All-cons (λ e. c e ≡ xor (s.values (a e)) (s.values (b e))) f.edge s.tree fits' s.fits;
          bare = λ d even. All-cons (λ e. d e ≡ false) f.edge s.tree (edge_out d even) (tree_out d even);
        }
          where
            agree' : (x : ℕ) → x < n → A x ≡ true → s.values x ≡ t x
            agree' x l i = grind arith

            at_outer : s.values out ≡ xor (t inn) (c f.edge)
            at_outer =
                s.agree out nodes.1 (or_right (A out) (eqb out out) (eq-eqb out out refl))
                ∙ ap (λ v. cond v (xor (t inn) (c f.edge)) (t out)) (eq-eqb out out refl)

            fits' : c f.edge ≡ xor (s.values (a f.edge)) (s.values (b f.edge))
            fits' = sym (f.crosses.ends s.values ∙ ap₂ xor (agree' inn nodes.0 f.crosses.inside) at_outer ∙ xor_twice (t inn) (c f.edge))

            -- at a node outside A other than the outer end the edge does not count
            tree_out : (d : X → Bool) → EvenOutside A d (f.edge ∷ s.tree) → All (λ e. d e ≡ false) s.tree
            tree_out d even = s.bare d (λ x l o.
                (let parts : (A x ≡ false) × (eqb out x ≡ false) = or_parts (A x) (eqb out x) o in
                let none : is_end (a f.edge) (b f.edge) x ≡ false =
                f.crosses.ends (λ y. eqb y x) ∙ ap₂ xor (apart A inn x f.crosses.inside parts.0) parts.1 in
                sym (ap (λ v. xor v (degree_parity a b d s.tree x)) (ap (λ v. d f.edge && v) none ∙ and-false (d f.edge))) ∙ even x l parts.0))

            -- and at the outer end it alone counts
            edge_out : (d : X → Bool) → EvenOutside A d (f.edge ∷ s.tree) → d f.edge ≡ false
            edge_out d even =
                let one : is_end (a f.edge) (b f.edge) out ≡ true =
                f.crosses.ends (λ y. eqb y out) ∙ ap₂ xor (apart A inn out f.crosses.inside f.crosses.outside) (eq-eqb out out refl) in
                let rest : degree_parity a b d s.tree out ≡ false =
                parity_by-none (λ e. d e && is_end (a e) (b e) out) s.tree
                (All-weaker (λ e. d e ≡ false) (λ e. (d e && is_end (a e) (b e) out) ≡ false)
                (λ e h. ap (λ v. v && is_end (a e) (b e) out) h) s.tree (tree_out d even)) in
                sym (xor-false (d f.edge)) ∙ sym (ap₂ xor (ap (λ v. d f.edge && v) one ∙ and-true (d f.edge)) rest)
                ∙ even out nodes.1 f.crosses.outside

      -- edges that lead from A to every node have a tree among them, with an edge for each node outside A
      pub span : (r : ℕ) (A t : ℕ → Bool) (E : List X) → count_outside A n ≡ r → EndsBelow a b n E → Reaches A E → Span r A t E
      span zero A t E size ends reach = record {
        values = t;
        agree = λ x l i. refl;
        tree = [];
        rest = E;
        is = IsPermutation-refl E;
        size = refl;
        fits = All-nil (λ e. c e ≡ xor (t (a e)) (t (b e)));
        bare = λ d even. All-nil (λ e. d e ≡ false);
      }
      span (suc r) A t E size ends reach = elim (find_leaving A E) [
        | inl none ↦ absurd (
            let full : count_outside A n ≡ 0 = sum_below-zero (λ x. cond (A x) 0 1) n (λ x l. ap (λ b. cond b 0 1) (reach A (λ x l i. i) none x l)) in
            omega arith)
        | inr f ↦ one_more r A t E f ends
            (span r (joined A (out r A t E f ends)) (next r A t E f ends) f.others
            (omega (arith, size, count_outside-joined A (out r A t E f ends) n (nodes r A t E f ends).1 f.crosses.outside))
            (parted r A t E f ends (λ e. (a e < n) × (b e < n)) ends).1 (still_reaches r A t E f ends reach))
      ]

      -- the edges of a tree and the others are all edges
      module _ {r : ℕ} {A t : ℕ → Bool} {E : List X} (s : Span r A t E) where
        -- what holds of both holds of all
        pub of_both : (P : X → Type 0) → All P s.tree → All P s.rest → All P E
        of_both P h k = All-permutation P (s.tree ++ s.rest) E (IsPermutation-sym E (s.tree ++ s.rest) s.is) (All-append P s.tree s.rest h k)

        -- what holds of all holds of the others
        pub of_rest : (P : X → Type 0) → All P E → All P s.rest
        of_rest P h = behind s.tree (All-permutation P E (s.tree ++ s.rest) s.is h)
          where
            behind : (xs : List X) → All P (xs ++ s.rest) → All P s.rest
            behind [] k = k
            behind (x ∷ xs) k = behind xs (All-tail P x (xs ++ s.rest) k)

        -- where no edge of one kind passes d, those of the other are as many as all, up to an even number
        module _ (d g : X → Bool) where
          abbrev both : X → Bool
          both e = d e && g e

          none_passes : (F : List X) → All (λ e. d e ≡ false) F → parity_by both F ≡ false
          none_passes F none = parity_by-none both F (All-weaker (λ e. d e ≡ false) (λ e. both e ≡ false) (λ e h. ap (λ v. v && g e) h) F none)

          parts : parity_by both E ≡ xor (parity_by both s.tree) (parity_by both s.rest)
          parts = parity_by-permutation both E (s.tree ++ s.rest) s.is ∙ parity_by-append both s.tree s.rest

          pub in_tree : All (λ e. d e ≡ false) s.rest → parity_by both s.tree ≡ parity_by both E
          in_tree none = sym (xor-false (parity_by both s.tree)) ∙ ap (xor (parity_by both s.tree)) (sym (none_passes s.rest none)) ∙ sym parts

          pub in_rest : All (λ e. d e ≡ false) s.tree → parity_by both s.rest ≡ parity_by both E
          in_rest none = ap (λ w. xor w (parity_by both s.rest)) (sym (none_passes s.tree none)) ∙ sym parts
