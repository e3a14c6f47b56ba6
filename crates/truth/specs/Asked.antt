-- What is asked of a part: what it unfolds to where its value next is 0, or 1; the operand of an X; whether it is settled.

pub data Asked : Type 0 where
  Low : Asked
  High : Asked
  Operand : Asked
  Settled : Asked
