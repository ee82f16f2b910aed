-- Record files, byte by byte: "Records of 32 bytes, no header, little-endian, every byte not named zero."
use Rattle.std.specs.Prelude.{ℕ, ◌/◌, ◌%◌, List, [], ◌∷◌, ◌++◌}
use Rattle.units.specs.Folds.{listed}

-- a number in two bytes, and in four
abbrev pub word : ℕ → List ℕ
word n = n % 256 ∷ n / 256 ∷ []

abbrev pub long : ℕ → List ℕ
long n = word (n % 65536) ++ word (n / 65536)

abbrev pub zeros : ℕ → List ℕ
zeros n = listed (λ k. 0) n

-- "1 setting (byte 1 F; 4-7 G; 8-11 starting tick)"
abbrev pub setting : ℕ → ℕ → ℕ → List ℕ
setting f g start = (1 ∷ f ∷ 0 ∷ 0 ∷ []) ++ (long g ++ (long start ++ zeros 20))

-- "2 task (1 I; 2 S; 4-5 T; 6-7 D; 8-9 C; 16-31 limits)", with T = D, and its limit on resource 0
abbrev pub task : ℕ → ℕ → ℕ → ℕ → ℕ → List ℕ
task d c i s r0 = (2 ∷ i ∷ s ∷ 0 ∷ []) ++ (word d ++ (word d ++ (word c ++ (zeros 6 ++ (word r0 ++ zeros 14)))))

-- "3 event (1: 1 release, 2 tick; 2: position or report 0 carry on, 1 done, 2 take, 3 give; 3: resource for take, else 0)"
abbrev pub event : ℕ → ℕ → ℕ → List ℕ
event kind said resource = (3 ∷ kind ∷ said ∷ resource ∷ []) ++ zeros 28

-- "F 2, G 20; position 0: T = D = 10, C 2, I 1, S 2, resource 0 limit 2; position 1: T = D = 20, C 8, I 1, S 2, resource 0 limit 4; start 0"
-- "events release 1, tick take 0, release 0, tick give, tick done, tick done"
abbrev pub whole : List ℕ
whole =
    setting 2 20 0
    ++ (task 10 2 1 2 2
    ++ (task 20 8 1 2 4
    ++ (event 1 1 0 ++ (event 2 2 0 ++ (event 1 0 0 ++ (event 2 3 0 ++ (event 2 1 0 ++ event 2 1 0)))))))
