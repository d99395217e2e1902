-- Words worked out by hand after table 3-2: [Q2, Q1], [I2, I1] at 8 bits, [Q1], [I1] at 16. Assumes nothing.
use Rattle.std.proofs.Common.{◌≡◌, [], ◌∷◌, pos, negsuc, refl}
use Rattle.octets.specs.Octets.{number_at, bytes_of}
use Rattle.sfdu_samples.specs.Packing.{twos, value_of, code_of, pairs_of, samples_of, half_of, sample_word_of, unpacked_sample_words, packed_sample_words}
use Rattle.sfdu_samples.specs.Packing.{unpacked, packed}

-- Q2 = 1, Q1 = 2, I2 = 254 (k = -2), I1 = 3: in time order 7, 5, then -3, 3
eight : unpacked 8 (1 ∷ 2 ∷ 254 ∷ 3 ∷ []) ≡ pos 7 ∷ pos 5 ∷ negsuc 2 ∷ pos 3 ∷ []
unfolding number_at twos value_of pairs_of samples_of unpacked_sample_words
eight = refl

eight-back : packed 8 (pos 7 ∷ pos 5 ∷ negsuc 2 ∷ pos 3 ∷ []) ≡ 1 ∷ 2 ∷ 254 ∷ 3 ∷ []
unfolding bytes_of code_of half_of sample_word_of packed_sample_words
eight-back = refl

-- Q1 = 32,768 (the lowest k), I1 = 32,767 (the highest)
sixteen : unpacked 16 (128 ∷ 0 ∷ 127 ∷ 255 ∷ []) ≡ pos 65535 ∷ negsuc 65534 ∷ []
unfolding number_at twos value_of pairs_of samples_of unpacked_sample_words
sixteen = refl
