-- A condition's number above fifteen names none.
-- Assumes nothing.
use Rattle.std.proofs.Common.{◌≡◌, ℕ, zero, suc, false, ◌≢◌, refl}
use Rattle.alu.specs.declared.Status.{Status}
use Rattle.conditions.specs.Conditions.{holds}

pub no_condition : (n : ℕ) (f : Status) → (((((((((((((((Unit {0} × (n ≢ 0)) × (n ≢ 1)) × (n ≢ 2)) × (n ≢ 3)) × (n ≢ 4)) × (n ≢ 5)) × (n ≢ 6)) × (n ≢ 7)) × (n ≢ 8)) × (n ≢ 9)) × (n ≢ 10)) × (n ≢ 11)) × (n ≢ 12)) × (n ≢ 13)) × (n ≢ 14)) × (n ≢ 15) → false ≡ holds n f
unfolding holds
no_condition zero f h = absurd (h.0.0.0.0.0.0.0.0.0.0.0.0.0.0.0.1 refl)
no_condition (suc zero) f h = absurd (h.0.0.0.0.0.0.0.0.0.0.0.0.0.0.1 refl)
no_condition (suc (suc zero)) f h = absurd (h.0.0.0.0.0.0.0.0.0.0.0.0.0.1 refl)
no_condition (suc (suc (suc zero))) f h = absurd (h.0.0.0.0.0.0.0.0.0.0.0.0.1 refl)
no_condition (suc (suc (suc (suc zero)))) f h = absurd (h.0.0.0.0.0.0.0.0.0.0.0.1 refl)
no_condition (suc (suc (suc (suc (suc zero))))) f h = absurd (h.0.0.0.0.0.0.0.0.0.0.1 refl)
no_condition (suc (suc (suc (suc (suc (suc zero)))))) f h = absurd (h.0.0.0.0.0.0.0.0.0.1 refl)
no_condition (suc (suc (suc (suc (suc (suc (suc zero))))))) f h = absurd (h.0.0.0.0.0.0.0.0.1 refl)
no_condition (suc (suc (suc (suc (suc (suc (suc (suc zero)))))))) f h = absurd (h.0.0.0.0.0.0.0.1 refl)
no_condition (suc (suc (suc (suc (suc (suc (suc (suc (suc zero))))))))) f h = absurd (h.0.0.0.0.0.0.1 refl)
no_condition (suc (suc (suc (suc (suc (suc (suc (suc (suc (suc zero)))))))))) f h = absurd (h.0.0.0.0.0.1 refl)
no_condition (suc (suc (suc (suc (suc (suc (suc (suc (suc (suc (suc zero))))))))))) f h = absurd (h.0.0.0.0.1 refl)
no_condition (suc (suc (suc (suc (suc (suc (suc (suc (suc (suc (suc (suc zero)))))))))))) f h = absurd (h.0.0.0.1 refl)
no_condition (suc (suc (suc (suc (suc (suc (suc (suc (suc (suc (suc (suc (suc zero))))))))))))) f h = absurd (h.0.0.1 refl)
no_condition (suc (suc (suc (suc (suc (suc (suc (suc (suc (suc (suc (suc (suc (suc zero)))))))))))))) f h = absurd (h.0.1 refl)
no_condition (suc (suc (suc (suc (suc (suc (suc (suc (suc (suc (suc (suc (suc (suc (suc zero))))))))))))))) f h = absurd (h.1 refl)
no_condition (suc (suc (suc (suc (suc (suc (suc (suc (suc (suc (suc (suc (suc (suc (suc (suc n)))))))))))))))) f h = refl
