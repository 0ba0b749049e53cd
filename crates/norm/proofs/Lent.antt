-- A lane's mean comes from its rows alone. Assumes nothing.
use Rattle.std.proofs.Common.{◌≡◌, ℕ, ◌<◌, ap, ◌∙◌}
use Rattle.scalar.specs.Ops.{Ops}
use Rattle.scalar.specs.Orders.{Order}
use Rattle.scalar.proofs.SumLaws.{sum_same}
use Rattle.norm.specs.Norms.{weighted, mean}

-- only the first rows count
pub mean_same : {M : Type 0} (o : Ops M) (order : Order M) (n : ℕ) (x x' y y' : ℕ → M) (rtol : M) (a a' : ℕ → M)
    → ((i : ℕ) → i < n → x i ≡ x' i) → ((i : ℕ) → i < n → y i ≡ y' i) → ((i : ℕ) → i < n → a i ≡ a' i) → mean o order n x y rtol a ≡ mean o order n x' y' rtol a'
mean_same o order n x x' y y' rtol a a' p q r =
    ap (λ s. order.over s (order.count n))
    (sum_same o o.zero (λ i. weighted o order (x i) (y i) rtol (a i)) (λ i. weighted o order (x' i) (y' i) rtol (a' i)) n
    (λ i h. ap (λ z. weighted o order z (y i) rtol (a i)) (p i h) ∙ ap (λ z. weighted o order (x' i) z rtol (a i)) (q i h) ∙ ap (λ z. weighted o order (x' i) (y' i) rtol z) (r i h)))

pub mean_of : {M : Type 0} (o : Ops M) (order : Order M) (m n : ℕ) (x x' y y' : ℕ → M) (rtol : M) (a a' : ℕ → M) → m ≡ n
    → ((i : ℕ) → i < n → x i ≡ x' i) → ((i : ℕ) → i < n → y i ≡ y' i) → ((i : ℕ) → i < n → a i ≡ a' i) → mean o order m x y rtol a ≡ mean o order n x' y' rtol a'
mean_of o order m n x x' y y' rtol a a' e p q r = ap (λ k. mean o order k x y rtol a) e ∙ mean_same o order n x x' y y' rtol a a' p q r
