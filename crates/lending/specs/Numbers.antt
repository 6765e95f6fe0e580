-- Requests one behind the other in a lent buffer.
use Rattle.std.specs.Prelude.{ℕ, ◌*◌, ◌/◌, List, length, drop}
use Rattle.machine.specs.declared.Request.{Request}
use Rattle.machine.specs.Numbers.{request_width, request_of}

-- how many requests so many numbers are
abbrev pub count_of : List ℕ → ℕ
count_of requests = length requests / request_width

-- the i-th of them, counted from 0
abbrev pub request_at : ℕ → List ℕ → Request
request_at i requests = request_of (drop (request_width * i) requests)
