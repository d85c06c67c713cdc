pub mod WhatChanged
pub mod Comparing
pub mod Walking
pub mod TheoremWords
pub mod Promises
