-- Example images, and what they mean.
use Rattle.std.specs.Prelude.{◌≡◌, ◌+◌, ◌-◌, ◌^◌, ℕ, List, [], ◌∷◌, ◌++◌, take, drop, slice_set, Ok, Err}
use Rattle.byteorder.specs.Endian.{big_bytes}
use Rattle.slp_image.specs.declared.refusal.ImageRefusal.TheVariants.{Magic, Version, Cut, Kind, Child, Balance, Length, Root, Name, RepeatName, Rest, Count}
use Rattle.slp_image.specs.Image.{Outcome, Meaning, image}

-- the fields of an image, and its records
abbrev pub eight : ℕ → List ℕ
eight n = big_bytes 8 n

abbrev pub a_byte : ℕ → List ℕ
a_byte b = 0 ∷ (b ∷ [])

abbrev pub a_pair : ℕ → ℕ → List ℕ
a_pair l r = 1 ∷ (eight l ++ eight r)

abbrev pub a_run : ℕ → ℕ → List ℕ
a_run child count = 2 ∷ (eight child ++ eight count)

-- an image whose one document `d` has this root
abbrev pub file : ℕ → ℕ → List ℕ → ℕ → List ℕ
file version count records root = 83 ∷ (76 ∷ (80 ∷ (73 ∷ (version ∷ (eight count ++ (records ++ (eight 1 ++ (1 ∷ (100 ∷ eight root)))))))))

-- `a`, `b` and their pair
abbrev pub ab : List ℕ
ab = a_byte 97 ++ (a_byte 98 ++ a_pair 0 1)

abbrev pub small : List ℕ
small = file 1 3 ab 2

abbrev pub stair : List ℕ
stair = a_byte 97 ++ (a_pair 0 0 ++ (a_pair 1 0 ++ (a_pair 2 0 ++ (a_pair 3 0 ++ a_pair 4 0))))

abbrev pub run : ℕ → ℕ → ℕ → List ℕ
run version child count = file version 4 (ab ++ a_run child count) 3

-- the one document `d` with this text, read at this cost from n nodes
abbrev pub one : ℕ → List ℕ → ℕ → Outcome Meaning
one cost content nodes = record { cost = cost; answer = Ok (record { documents = (100 ∷ [], content) ∷ []; nodes = nodes }) }

pub record ImageRows : Type 0 where
  pub plain : image small ≡ one 1 (97 ∷ (98 ∷ [])) 3
  pub empty_text : image (file 1 3 ab (2 ^ 64 - 1)) ≡ one 1 [] 3
  pub second_version : image (slice_set small 4 2) ≡ one 205 (97 ∷ (98 ∷ [])) 3
  pub magic : image (slice_set small 0 84) ≡ record { cost = 0; answer = Err Magic }
  pub version : image (slice_set small 4 3) ≡ record { cost = 0; answer = Err Version }
  pub no_bytes : image [] ≡ record { cost = 0; answer = Err Cut }
  pub cut : image (take 51 small) ≡ record { cost = 1; answer = Err Cut }
  pub count : image (take 34 (file 1 (2 ^ 64 - 1) ab 2)) ≡ record { cost = 1; answer = Err Cut }
  pub kind : image (slice_set small 13 7) ≡ record { cost = 0; answer = Err Kind }
  pub child : image (slice_set small 33 2) ≡ record { cost = 0; answer = Err Child }
  pub balance : image (file 1 5 (ab ++ (a_pair 2 0 ++ a_pair 3 0)) 4) ≡ record { cost = 2; answer = Err Balance }
  pub root : image (slice_set small 51 3) ≡ record { cost = 1; answer = Err Root }
  pub name : image (slice_set small 43 57) ≡ record { cost = 1; answer = Err Name }
  pub repeat_name : image (slice_set small 41 2 ++ drop 42 small) ≡ record { cost = 1; answer = Err RepeatName }
  pub rest : image (small ++ 0 ∷ []) ≡ record { cost = 1; answer = Err Rest }
  pub forward : image (file 1 3 (a_pair 0 1 ++ (a_byte 97 ++ a_byte 98)) 2) ≡ record { cost = 0; answer = Err Child }
  pub few_runs : image (run 2 2 3) ≡ one 411 (97 ∷ (98 ∷ (97 ∷ (98 ∷ (97 ∷ (98 ∷ [])))))) 4
  pub long_run : image (run 2 2 (2 ^ 47 + 1)) ≡ record { cost = 205; answer = Err Length }
  pub no_run : image (run 2 2 0) ≡ record { cost = 205; answer = Err Count }
  pub far_run : image (run 2 3 (2 ^ 47)) ≡ record { cost = 205; answer = Err Child }
  pub run_as_node : image (run 1 2 (2 ^ 47)) ≡ record { cost = 1; answer = Err Kind }
  pub stair_of_texts : image (file 2 6 stair 5) ≡ one 1025 (97 ∷ (97 ∷ (97 ∷ (97 ∷ (97 ∷ (97 ∷ [])))))) 6
  pub stair_of_nodes : image (file 1 6 stair 5) ≡ record { cost = 2; answer = Err Balance }
