-- What a loop over the places of a list from one to another leaves of it. Assumes nothing.
use Rattle.std.specs.Prelude.{◌≡◌, List, ℕ, ◌≤◌, ◌<◌, length, get_or}

-- the places from a to b − 1 hold f, the others what they held
module _ {A : Type 0} (z : A) where
  pub record Stretch (f : ℕ → A) (a b : ℕ) (old new : List A) : Type 0 where
    pub size : length new ≡ length old
    pub before : (c : ℕ) → c < a → get_or new c z ≡ get_or old c z
    pub here : (c : ℕ) → a ≤ c → c < b → get_or new c z ≡ f c
    pub after : (c : ℕ) → b ≤ c → get_or new c z ≡ get_or old c z

  -- they hold z
  abbrev pub Cleared : ℕ → ℕ → List A → List A → Type 0
  Cleared = Stretch (λ c. z)
