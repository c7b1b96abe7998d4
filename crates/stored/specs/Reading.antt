-- Words of inner contracts: the checks of a file, part by part in reading's order.
use Rattle.std.specs.Prelude.{List, ℕ}
use Rattle.rules.specs.Mesh.{topology}
use Rattle.rules.specs.Refusals.{check, corner_out_of_range}
use Rattle.rules.specs.StoredForm.{stored_mesh, wrong_width, wrong_length, spare_bits, header_checks}

-- 13 (under 13 bytes), 14, 2 and 15, and then what the later checks say
unfoldable pub whole_header_checks : List ℕ → ℕ → ℕ
whole_header_checks s later = header_checks s (check (wrong_width s) 15 later)

-- what stands behind the header
unfoldable pub body_checks : List ℕ → ℕ → ℕ
body_checks s later =
    check (wrong_length s) 13
    (check (spare_bits s) 16
    (check (corner_out_of_range (topology (stored_mesh s))) 4 later))

-- all of reading's checks but 11
unfoldable pub file_checks : List ℕ → ℕ → ℕ
file_checks s later = whole_header_checks s (body_checks s later)
